-- A matrix has an inverse or takes some non-zero column to zeros, and never both. An inverse on one side is one on the
-- other, and there is only one. First for whole sums modulo any m above 1; then for the definitions.
-- Assumes nothing.
use Prim.Native.Nat.{ℕ, zero, suc, ◌+◌, ◌*◌, ◌-◌, ◌%◌, ◌^◌, ◌<◌}
use mathlib.Core.Path.{◌≡◌, refl, sym, ap, ◌∙◌}
use mathlib.Core.Logic.{◌⊎◌, inl, inr, ⊎_elim}
use native.Mathlib.Nat.{le-suc_iff, mod-lt, mod-eq_of_lt, mod-mod}
use native.Mathlib.Decide.{ℕ_discrete}
use native.Mathlib.Omega.{arith}
use Rattle.field.specs.Field.{P, Canonical}
use Rattle.field.proofs.Power.{big}
use Rattle.matrix.specs.Matrix.{times_column, product, identity, Inverse, Kernel}
use Rattle.matrix.proofs.Modulo.{minus, unminus}
use Rattle.matrix.proofs.Linear.{row, rows, Same, row_row, row_pick, identity_row, row_add, row_same}
use Rattle.matrix.proofs.Linear.{same_row, row_zero, identity_lt, times_ext, product_column, undo}
use Rattle.matrix.proofs.Columns.{find, enc, dec, enc_zeros, dec_zero, enc_lt, dec_lt}
use Rattle.matrix.proofs.Columns.{dec_enc, dec_inj, image, image_lt, reach}

some : (x : ℕ → ℕ) (l : ℕ) → ((i : ℕ) × (i < l) × (0 < x i)) ⊎ ((i : ℕ) → i < l → x i ≡ 0)
some x zero = inr (λ i h. absurd (omega arith))
some x (suc l) = go (ℕ_discrete (x l) 0) (some x l)
  where
    go : Dec (x l ≡ 0) → ((i : ℕ) × (i < l) × (0 < x i)) ⊎ ((i : ℕ) → i < l → x i ≡ 0)
        → ((i : ℕ) × (i < suc l) × (0 < x i)) ⊎ ((i : ℕ) → i < suc l → x i ≡ 0)
    go (no e) r = inl (l, omega arith, omega arith)
    go (yes e) (inl r) = inl (r.0, omega arith, r.2)
    go (yes e) (inr f) =
        inr (λ i h. ⊎_elim (λ (g : i < l). f i g) (λ (g : suc i ≡ suc l). ap x (omega arith) ∙ e) (le-suc_iff.0 h))

-- ---- whole sums modulo m
module _ (m : ℕ) (big : 1 < m) (n : ℕ) where
  -- a times b is the identity modulo m
  abbrev Inv : (ℕ → ℕ → ℕ) → (ℕ → ℕ → ℕ) → Type 0
  Inv a b = (i k : ℕ) → i < n → k < n → rows n a b i k % m ≡ identity i k % m

  inv_undo : (a b : ℕ → ℕ → ℕ) → Inv a b → (x : ℕ → ℕ) → Same m n (row n a (row n b x)) x
  inv_undo a b h x i l =
      ap (λ y. y % m) (row_row n n a b x i)
      ∙ same_row m n (rows n a b) identity x i (λ k g. h i k l g)
      ∙ ap (λ y. y % m) (identity_row n x i l)

  undo_inv : (a b : ℕ → ℕ → ℕ) → ((x : ℕ → ℕ) → Same m n (row n a (row n b x)) x) → Inv a b
  undo_inv a b h i k hi hk =
      sym
      (ap (λ y. y % m) (row_row n n a b (λ j. identity j k) i)
      ∙ ap (λ y. y % m) (row_pick n k (rows n a b) i hk))
      ∙ h (λ j. identity j k) i hi

  inv_other : (a b : ℕ → ℕ → ℕ) → Inv a b → Inv b a
  inv_other a b h = undo_inv b a both
    where
      inj : (x y : ℕ → ℕ) → Same m n (row n b x) (row n b y) → Same m n x y
      inj x y g i l = sym (inv_undo a b h x i l) ∙ row_same m n a (row n b x) (row n b y) g i ∙ inv_undo a b h y i l

      both : (y : ℕ → ℕ) → Same m n (row n b (row n a y)) y
      both y i l =
          row_same m n b (row n a y) x
          (λ k g. row_same m n a y (row n b x) (λ j u. sym (r.1 j u)) k ∙ inv_undo a b h x k g) i
          ∙ r.1 i l
        where
          r : (x : ℕ → ℕ) × Same m n (row n b x) y × ((i : ℕ) → x i < m)
          r = reach m big n b inj y

          x : ℕ → ℕ
          x = r.0

  -- a column below m, not all 0, that a takes to zeros
  record Ker (a : ℕ → ℕ → ℕ) : Type 0 where
    column : ℕ → ℕ
    low : (i : ℕ) → column i < m
    place : ℕ
    within : place < n
    nonzero : 0 < column place
    zeros : (i : ℕ) → i < n → row n a column i % m ≡ 0

  either : (a : ℕ → ℕ → ℕ) → ((r : ℕ → ℕ → ℕ) × Inv a r × ((i k : ℕ) → r i k < m)) ⊎ Ker a
  either a =
      ⊎_elim (λ (f : (u : ℕ) × (u < m ^ n - 1) × (G u ≡ 0)). inr (kernel f))
      (λ (f : (u : ℕ) → u < m ^ n - 1 → G u ≡ 0 → ⊥). inl (inverse f)) (find G 0 (m ^ n - 1))
    where
      -- over the numbers of the non-zero columns
      G : ℕ → ℕ
      G u = enc m n (image m big n a (suc u))

      kernel : (u : ℕ) × (u < m ^ n - 1) × (G u ≡ 0) → Ker a
      kernel (u, l, e) =
          ⊎_elim (λ (w : (i : ℕ) × (i < n) × (0 < dec m (suc u) i)). k w)
          (λ (w : (i : ℕ) → i < n → dec m (suc u) i ≡ 0). absurd (bad w)) (some (dec m (suc u)) n)
        where
          k : (i : ℕ) × (i < n) × (0 < dec m (suc u) i) → Ker a
          k (i, b, p) =
              record {
                column = dec m (suc u);
                low = dec_lt m big (suc u);
                place = i;
                within = b;
                nonzero = p;
                zeros = λ j g. sym (dec_enc m big n (image m big n a (suc u)) (image_lt m big n a (suc u)) j g)
                    ∙ ap (λ v. dec m v j) e
                    ∙ dec_zero m j;
              }

          bad : ((i : ℕ) → i < n → dec m (suc u) i ≡ 0) → ⊥
          bad w =
              omega (arith, dec_inj m big n (suc u) 0 (omega arith) (omega arith) (λ j g. w j g ∙ sym (dec_zero m j)))

      inverse : ((u : ℕ) → u < m ^ n - 1 → G u ≡ 0 → ⊥) → (r : ℕ → ℕ → ℕ) × Inv a r × ((i k : ℕ) → r i k < m)
      inverse f = (
        (λ j k. (reach m big n a inj (λ l. identity l k)).0 j),
        (λ i k hi hk. (reach m big n a inj (λ l. identity l k)).1 i hi),
        (λ j k. (reach m big n a inj (λ l. identity l k)).2 j),
      )
        where
          inj : (x y : ℕ → ℕ) → Same m n (row n a x) (row n a y) → Same m n x y
          inj x y same = go (enc m n z) refl
            where
              z : ℕ → ℕ
              z i = (x i + (m - 1) * y i) % m

              z_lt : (i : ℕ) → i < n → z i < m
              z_lt i l = mod-lt (x i + (m - 1) * y i) (omega arith)

              -- a takes z to zeros
              az : (i : ℕ) → i < n → row n a z i % m ≡ 0
              az i l =
                  row_same m n a z (λ j. x j + (m - 1) * y j) (λ j g. mod-mod (x j + (m - 1) * y j) m) i
                  ∙ ap (λ s. s % m) (row_add n a x y (m - 1) i)
                  ∙ minus m big (row n a x i) (row n a y i) (same i l)

              go : (v : ℕ) → enc m n z ≡ v → Same m n x y
              go zero e i l =
                  unminus m big (x i) (y i) (sym (dec_enc m big n z z_lt i l) ∙ ap (λ v. dec m v i) e ∙ dec_zero m i)
              go (suc u) e i l = absurd (f u small (enc_zeros m n (image m big n a (suc u)) zeros))
                where
                  small : u < m ^ n - 1
                  small = omega (arith, e, enc_lt m big n z z_lt)

                  zeros : (k : ℕ) → k < n → image m big n a (suc u) k ≡ 0
                  zeros k g =
                      row_same m n a (dec m (suc u)) z
                      (λ j b. ap (λ v. v % m) (ap (λ v. dec m v j) (sym e) ∙ dec_enc m big n z z_lt j b)) k
                      ∙ az k g

-- ---- the definitions
to_inv : (n : ℕ) (a b : ℕ → ℕ → ℕ) → Inverse n a b → Inv P big n a b
unfolding Inverse product
to_inv n a b h i k hi hk = h i k hi hk ∙ sym (mod-eq_of_lt (identity_lt P big i k))

from_inv : (n : ℕ) (a b : ℕ → ℕ → ℕ) → Inv P big n a b → Inverse n a b
unfolding Inverse product
from_inv n a b h i k hi hk = h i k hi hk ∙ mod-eq_of_lt (identity_lt P big i k)

-- an inverse on one side is one on the other
pub other_side : (n : ℕ) (a b : ℕ → ℕ → ℕ) → Inverse n a b → Inverse n b a
other_side n a b h = from_inv n b a (inv_other P big n a b (to_inv n a b h))

-- a and its inverse, on both sides
pub record Invertible (n : ℕ) (a : ℕ → ℕ → ℕ) : Type 0 where
  pub matrix : ℕ → ℕ → ℕ
  pub canonical : (i k : ℕ) → i < n → k < n → Canonical (matrix i k)
  pub right : Inverse n a matrix
  pub left : Inverse n matrix a

-- a matrix has an inverse, or takes some non-zero column to all zeros
pub dichotomy : (n : ℕ) (a : ℕ → ℕ → ℕ) → Invertible n a ⊎ Kernel n a
unfolding times_column
dichotomy n a =
    ⊎_elim (λ (r : (b : ℕ → ℕ → ℕ) × Inv P big n a b × ((i k : ℕ) → b i k < P)). inl (invertible r))
    (λ (k : Ker P big n a). inr (kernel k)) (either P big n a)
  where
    invertible : (b : ℕ → ℕ → ℕ) × Inv P big n a b × ((i k : ℕ) → b i k < P) → Invertible n a
    invertible r =
        record {
          matrix = r.0;
          canonical = λ i k hi hk. r.2 i k;
          right = from_inv n a r.0 r.1;
          left = other_side n a r.0 (from_inv n a r.0 r.1);
        }

    kernel : Ker P big n a → Kernel n a
    kernel k =
        record {
          column = k.column;
          canonical = λ i h. k.low i;
          place = k.place;
          within = k.within;
          nonzero = k.nonzero;
          zeros = k.zeros;
        }

-- and never both
pub not_both : (n : ℕ) (a b : ℕ → ℕ → ℕ) → Inverse n a b → Kernel n a → ⊥
unfolding times_column
not_both n a b h k = omega (arith, zero_there, k.nonzero)
  where
    zero_there : k.column k.place ≡ 0
    zero_there =
        sym (undo n b a (other_side n a b h) k.column k.place k.within (k.canonical k.place k.within))
        ∙ row_zero P n b (times_column n a k.column) (λ i l. ap (λ v. v % P) (k.zeros i l)) k.place

-- there is only one inverse of canonical cells
pub inverse_unique : (n : ℕ) (a b c : ℕ → ℕ → ℕ) → Inverse n a b → Inverse n a c
    → ((i k : ℕ) → i < n → k < n → Canonical (b i k)) → ((i k : ℕ) → i < n → k < n → Canonical (c i k)) → (i k : ℕ)
    → i < n → k < n → b i k ≡ c i k
unfolding Inverse
inverse_unique n a b c hb hc lb lc i k hi hk =
    sym (undo n c a back (λ j. b j k) i hi (lb i k hi hk))
    ∙ times_ext n c c (times_column n a (λ j. b j k)) (times_column n a (λ j. c j k)) i (λ j l. refl)
    (λ j l. sym (product_column n a b j k) ∙ hb j k l hk ∙ sym (hc j k l hk) ∙ product_column n a c j k)
    ∙ undo n c a back (λ j. c j k) i hi (lc i k hi hk)
  where
    back : Inverse n c a
    back = other_side n a c hc
