-- Row operations on a matrix of n rows and k columns give no new column that goes to zeros; and what the last rows say
-- of the matrix that they began with.
-- Assumes nothing.
use Prim.Native.Nat.{ℕ, ◌+◌, ◌*◌, ◌-◌, ◌%◌, ◌<◌, ◌≤◌}
use mathlib.Core.Path.{◌≡◌, refl, sym, ap, ap₂, ◌∙◌, subst}
use native.Mathlib.Nat.{mod-lt, mod-mod, zero-mul, mul-zero, one-mul, mul-one}
use native.Mathlib.Nat.{mul_assoc, mod-eq_of_lt, zero-mod, add-zero}
use native.Mathlib.Decide.{ℕ_discrete, dec_lt}
use native.Mathlib.Omega.{arith}
use borrow.Author.Tests.{lt-ltb, le-ltb}
use lib.Dec.{ltb}
use Rattle.lists.specs.Lists.{choose, sum}
use Rattle.lists.proofs.Sum.{sum_suc, sum_ext, sum_add, sum_mul, sum_split, sum_short, all_0}
use Rattle.field.specs.Field.{P}
use Rattle.field.proofs.Power.{big}
use Rattle.matrix.specs.Matrix.{times_column, product, identity, Inverse, Kernel}
use Rattle.matrix.proofs.Modulo.{add_eq, mul_eq, sum_eq, minus, unminus}
use Rattle.matrix.proofs.Linear.{row, rows, identity_same, identity_other, identity_lt, identity_row, row_pick}
use Rattle.matrix_inverse.specs.EliminationHelpers.{beside}

-- all n rows of a, of k columns, take z to 0 modulo m
abbrev pub Zero : ℕ → ℕ → ℕ → (ℕ → ℕ → ℕ) → (ℕ → ℕ) → Type 0
Zero m n k a z = (i : ℕ) → i < n → row k a z i % m ≡ 0

-- ---- two row operations from a to b, which differ in row r only
module _ (m : ℕ) (big : 1 < m) (n k : ℕ) (a b : ℕ → ℕ → ℕ) (r : ℕ)
    (other : (i l : ℕ) → i < n → l < k → (i ≡ r → ⊥) → b i l ≡ a i l) where
  others : (z : ℕ → ℕ) → Zero m n k b z → (i : ℕ) → i < n → (i ≡ r → ⊥) → row k a z i % m ≡ 0
  others z h i l ne =
      ap (λ s. s % m)
      (sum_ext k (λ j. a i j * z j) (λ j. b i j * z j) (λ j g. ap (λ y. y * z j) (sym (other i j l g ne))))
      ∙ h i l

  every : (z : ℕ → ℕ) → Zero m n k b z → (r < n → row k a z r % m ≡ 0) → Zero m n k a z
  every z h at_r i l = go (ℕ_discrete i r)
    where
      go : Dec (i ≡ r) → row k a z i % m ≡ 0
      go (yes e) = subst (λ y. row k a z y % m ≡ 0) (sym e) (at_r (subst (λ y. y < n) e l))
      go (no e) = others z h i l e

  -- c times row j added to row r
  pub added : (j c : ℕ) → j < n → (j ≡ r → ⊥) → ((l : ℕ) → l < k → b r l % m ≡ (a r l + c * a j l) % m)
      → (z : ℕ → ℕ) → Zero m n k b z → Zero m n k a z
  added j c hj ne same z h = every z h at_r
    where
      at_r : r < n → row k a z r % m ≡ 0
      at_r lr =
          ap (λ s. s % m) (sym (add-zero (row k a z r)))
          ∙ add_eq m (row k a z r) (row k a z r) 0 (c * row k a z j) refl
          (sym
          (mul_eq m c c (row k a z j) 0 refl (others z h j hj ne ∙ sym (zero-mod m)) ∙ ap (λ y. y % m) (mul-zero c)))
          ∙ ap (λ s. s % m) (sym e)
          ∙ sum_eq m k (λ l. (a r l + c * a j l) * z l) (λ l. b r l * z l)
          (λ l g. mul_eq m (a r l + c * a j l) (b r l) (z l) (z l) (sym (same l g)) refl)
          ∙ h r lr
        where
          e : sum k (λ l. (a r l + c * a j l) * z l) ≡ row k a z r + c * row k a z j
          e =
              sum_ext k (λ l. (a r l + c * a j l) * z l) (λ l. a r l * z l + c * (a j l * z l)) (λ l g. omega arith)
              ∙ sum_add k (λ l. a r l * z l) (λ l. c * (a j l * z l))
              ∙ ap (λ s. row k a z r + s) (sum_mul k c (λ l. a j l * z l))

  -- row r times c, which d undoes
  pub scaled : (c d : ℕ) → (d * c) % m ≡ 1 → ((l : ℕ) → l < k → b r l % m ≡ (c * a r l) % m) → (z : ℕ → ℕ)
      → Zero m n k b z → Zero m n k a z
  scaled c d unit same z h = every z h at_r
    where
      at_r : r < n → row k a z r % m ≡ 0
      at_r lr =
          ap (λ s. s % m) (sym (one-mul s))
          ∙ mul_eq m 1 (d * c) s s (mod-eq_of_lt big ∙ sym unit) refl
          ∙ ap (λ s. s % m) (mul_assoc d c s)
          ∙ mul_eq m d d (c * s) 0 refl (zero ∙ sym (zero-mod m))
          ∙ ap (λ y. y % m) (mul-zero d)
          ∙ zero-mod m
        where
          s : ℕ
          s = row k a z r

          zero : (c * s) % m ≡ 0
          zero =
              ap (λ y. y % m) (sym (sum_mul k c (λ l. a r l * z l)))
              ∙ sum_eq m k (λ l. c * (a r l * z l)) (λ l. b r l * z l)
              (λ l g. ap (λ y. y % m) (sym (mul_assoc c (a r l) (z l)))
              ∙ mul_eq m (c * a r l) (b r l) (z l) (z l) (sym (same l g)) refl)
              ∙ h r lr

-- ---- a matrix with the identity beside it, and a column of two parts
pub beside_left : (n : ℕ) (a : ℕ → ℕ → ℕ) (i l : ℕ) → l < n → beside n a i l ≡ a i l
unfolding beside
beside_left n a i l h = ap (λ b. choose b (a i l) (identity i (l - n))) (lt-ltb l n h)

pub beside_right : (n : ℕ) (a : ℕ → ℕ → ℕ) (i l : ℕ) → n ≤ l → beside n a i l ≡ identity i (l - n)
unfolding beside
beside_right n a i l h = ap (λ b. choose b (a i l) (identity i (l - n))) (le-ltb l n h)

-- x, and y below it
above : ℕ → (ℕ → ℕ) → (ℕ → ℕ) → ℕ → ℕ
above n x y l = choose (ltb l n) (x l) (y (l - n))

above_left : (n : ℕ) (x y : ℕ → ℕ) (l : ℕ) → l < n → above n x y l ≡ x l
unfolding above
above_left n x y l h = ap (λ b. choose b (x l) (y (l - n))) (lt-ltb l n h)

above_right : (n : ℕ) (x y : ℕ → ℕ) (l : ℕ) → above n x y (n + l) ≡ y l
unfolding above
above_right n x y l = ap (λ b. choose b (x (n + l)) (y (n + l - n))) (le-ltb (n + l) n (omega arith)) ∙ ap y e
  where
    e : n + l - n ≡ l
    e = omega arith

module _ (n : ℕ) (a : ℕ → ℕ → ℕ) where
  -- a row at a column of two parts
  parts : (w : ℕ → ℕ → ℕ) (x y : ℕ → ℕ) (i : ℕ)
      → row (n + n) w (above n x y) i ≡ row n w x i + sum n (λ l. w i (n + l) * y l)
  parts w x y i =
      sum_split n n (λ l. w i l * above n x y l)
      ∙ ap₂ ◌+◌
      (sum_ext n (λ l. w i l * above n x y l) (λ l. w i l * x l) (λ l h. ap (λ t. w i l * t) (above_left n x y l h)))
      (sum_ext n (λ l. w i (n + l) * above n x y (n + l)) (λ l. w i (n + l) * y l)
      (λ l h. ap (λ t. w i (n + l) * t) (above_right n x y l)))

  -- the same of a with the identity beside it
  begins : (x y : ℕ → ℕ) (i : ℕ) → i < n → row (n + n) (beside n a) (above n x y) i ≡ row n a x i + y i
  begins x y i h =
      parts (beside n a) x y i
      ∙ ap₂ ◌+◌
      (sum_ext n (λ l. beside n a i l * x l) (λ l. a i l * x l) (λ l g. ap (λ t. t * x l) (beside_left n a i l g)))
      (sum_ext n (λ l. beside n a i (n + l) * y l) (λ l. identity i l * y l)
      (λ l g. ap (λ t. t * y l) (beside_right n a i (n + l) (omega arith) ∙ ap (identity i) (less l)))
      ∙ identity_row n y i h)
    where
      less : (l : ℕ) → n + l - n ≡ l
      less l = omega arith

  -- rows w that take no column to zeros that a with the identity beside it does not
  module _ (w : ℕ → ℕ → ℕ) (under : (z : ℕ → ℕ) → Zero P n (n + n) w z → Zero P n (n + n) (beside n a) z) where
    -- the identity on the left: the inverse is on the right. The column is column k of the right half, and below it
    -- -1 at k
    pub finished : ((i l : ℕ) → i < n → l < n → w i l ≡ identity i l) → Inverse n a (λ i k. w i (n + k))
    unfolding Inverse product
    finished id i k hi hk =
        unminus P big (rows n a (λ i k. w i (n + k)) i k) (identity i k)
        (ap (λ s. s % P) (sym (begins x y i hi)) ∙ under (above n x y) zeros i hi)
        ∙ mod-eq_of_lt (identity_lt P big i k)
      where
        x : ℕ → ℕ
        x l = w l (n + k)

        y : ℕ → ℕ
        y l = (P - 1) * identity l k

        zeros : Zero P n (n + n) w (above n x y)
        zeros j hj = ap (λ s. s % P) (parts w x y j ∙ ap₂ ◌+◌ left right) ∙ minus P big (w j (n + k)) (w j (n + k)) refl
          where
            left : row n w x j ≡ w j (n + k)
            left =
                sum_ext n (λ l. w j l * x l) (λ l. identity j l * x l) (λ l g. ap (λ t. t * x l) (id j l hj g))
                ∙ identity_row n x j hj

            right : sum n (λ l. w j (n + l) * y l) ≡ (P - 1) * w j (n + k)
            right =
                sum_ext n (λ l. w j (n + l) * y l) (λ l. (P - 1) * (w j (n + l) * identity l k))
                (λ l g. swap (w j (n + l)) (P - 1) (identity l k))
                ∙ sum_mul n (P - 1) (λ l. w j (n + l) * identity l k)
                ∙ ap (λ s. (P - 1) * s) (row_pick n k (λ j l. w j (n + l)) j hk)
              where
                swap : (p q s : ℕ) → p * (q * s) ≡ q * (p * s)
                swap p q s = omega arith

    -- no pivot in column j, which is then a combination of those before it
    pub stuck : (j : ℕ) → j < n → ((i l : ℕ) → i < n → l < j → w i l ≡ identity i l)
        → ((i : ℕ) → j ≤ i → i < n → w i j ≡ 0) → Kernel n a
    unfolding times_column
    stuck j hj id none =
        record {
          column = x;
          canonical = λ l h. x_lt l;
          place = j;
          within = hj;
          nonzero = omega (arith, x_at);
          zeros = zeros;
        }
      where
        x : ℕ → ℕ
        x l = choose (ltb l j) ((P - 1) * w l j % P) (identity l j)

        x_left : (l : ℕ) → l < j → x l ≡ (P - 1) * w l j % P
        x_left l h = ap (λ b. choose b ((P - 1) * w l j % P) (identity l j)) (lt-ltb l j h)

        x_right : (l : ℕ) → j ≤ l → x l ≡ identity l j
        x_right l h = ap (λ b. choose b ((P - 1) * w l j % P) (identity l j)) (le-ltb l j h)

        x_at : x j ≡ 1
        x_at = x_right j (omega arith) ∙ identity_same j

        x_lt : (l : ℕ) → x l < P
        x_lt l = go (dec_lt l j)
          where
            go : Dec (l < j) → x l < P
            go (yes h) = subst (λ y. y < P) (sym (x_left l h)) (mod-lt ((P - 1) * w l j) (omega arith))
            go (no h) = subst (λ y. y < P) (sym (x_right l (omega arith))) (identity_lt P big l j)

        -- a row of w at x
        at_x : (i : ℕ) → i < n → row n w x i ≡ sum j (λ l. w i l * x l) + w i j
        at_x i hi =
            sum_short n (j + 1) (λ l. w i l * x l) (omega arith)
            (λ l p q. ap (λ y. w i l * y) (x_right l (omega arith) ∙ identity_other l j (λ e. omega arith))
            ∙ mul-zero (w i l))
            ∙ ap (λ k. sum k (λ l. w i l * x l)) next
            ∙ sum_suc j (λ l. w i l * x l)
            ∙ ap (λ y. sum j (λ l. w i l * x l) + y) (ap (λ y. w i j * y) x_at ∙ mul-one (w i j))
          where
            next : j + 1 ≡ Prim.Native.Nat.suc j
            next = omega arith

        before : (i : ℕ) → i < n → sum j (λ l. w i l * x l) ≡ sum j (λ l. identity i l * ((P - 1) * w l j % P))
        before i hi =
            sum_ext j (λ l. w i l * x l) (λ l. identity i l * ((P - 1) * w l j % P))
            (λ l h. ap₂ ◌*◌ (id i l hi h) (x_left l h))

        wx : (i : ℕ) → i < n → row n w x i % P ≡ 0
        wx i hi = go (dec_lt i j)
          where
            go : Dec (i < j) → row n w x i % P ≡ 0
            go (yes h) =
                ap (λ y. y % P)
                (at_x i hi ∙ ap (λ y. y + w i j) (before i hi ∙ identity_row j (λ l. (P - 1) * w l j % P) i h))
                ∙ add_eq P ((P - 1) * w i j % P) ((P - 1) * w i j) (w i j) (w i j) (mod-mod ((P - 1) * w i j) P) refl
                ∙ ap (λ y. y % P) e
                ∙ minus P big (w i j) (w i j) refl
              where
                e : (P - 1) * w i j + w i j ≡ w i j + (P - 1) * w i j
                e = omega arith
            go (no h) =
                ap (λ y. y % P)
                (at_x i hi
                ∙ ap₂ ◌+◌
                (before i hi
                ∙ all_0 j (λ l. identity i l * ((P - 1) * w l j % P))
                (λ l g. ap (λ y. y * ((P - 1) * w l j % P)) (identity_other i l (λ e. omega arith))
                ∙ zero-mul ((P - 1) * w l j % P)))
                (none i (omega arith) hi))
                ∙ zero-mod P

        zw : Zero P n (n + n) w (above n x (λ l. 0))
        zw i hi =
            ap (λ y. y % P)
            (parts w x (λ l. 0) i
            ∙ ap (λ y. row n w x i + y) (all_0 n (λ l. w i (n + l) * 0) (λ l h. mul-zero (w i (n + l))))
            ∙ add-zero (row n w x i))
            ∙ wx i hi

        zeros : (i : ℕ) → i < n → row n a x i % P ≡ 0
        zeros i hi =
            ap (λ y. y % P) (sym (add-zero (row n a x i)) ∙ sym (begins x (λ l. 0) i hi))
            ∙ under (above n x (λ l. 0)) zw i hi
