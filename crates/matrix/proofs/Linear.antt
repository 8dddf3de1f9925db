-- A matrix times a column: it is linear, a product of matrices is one after the other, the identity changes nothing.
-- First for whole sums, compared modulo any m; then for the definitions, which reduce by p.
-- Assumes nothing.
use Prim.Native.Nat.{ℕ, ◌+◌, ◌*◌, ◌%◌, ◌<◌}
use mathlib.Core.Path.{◌≡◌, refl, sym, ap, ◌∙◌}
use native.Mathlib.Nat.{mod-lt, mod-mod, zero-mul, mul-zero, one-mul, mul-one, mul_assoc, mod-eq_of_lt, zero-mod}
use native.Mathlib.Decide.{ℕ_discrete}
use native.Mathlib.Omega.{arith}
use borrow.Author.Tests.{eq-eqb, ne_eqb}
use Rattle.lists.specs.Lists.{choose, sum}
use Rattle.lists.proofs.Sum.{sum_ext, sum_one, sum_mul, sum_mul_r, sum_swap, sum_add, all_0}
use Rattle.field.specs.Field.{P}
use Rattle.matrix.specs.Matrix.{times_column, product, identity, Inverse}
use Rattle.matrix.proofs.Modulo.{mul_eq, sum_eq}

-- ---- the identity
pub identity_same : (i : ℕ) → identity i i ≡ 1
identity_same i = ap (λ b. choose b 1 0) (eq-eqb i i refl)

pub identity_other : (i j : ℕ) → (i ≡ j → ⊥) → identity i j ≡ 0
identity_other i j h = ap (λ b. choose b 1 0) (ne_eqb i j h)

pub identity_lt : (m : ℕ) → 1 < m → (i j : ℕ) → identity i j < m
identity_lt m b i j = go (ℕ_discrete i j)
  where
    go : Dec (i ≡ j) → identity i j < m
    go (yes e) = omega (arith, ap (identity i) (sym e) ∙ identity_same i)
    go (no h) = omega (arith, identity_other i j h)

-- ---- whole sums

-- cell i of a matrix of n columns times a column, not reduced
abbrev pub row : ℕ → (ℕ → ℕ → ℕ) → (ℕ → ℕ) → ℕ → ℕ
row n a x i = sum n (λ j. a i j * x j)

-- the product of two matrices of size n, not reduced
abbrev pub rows : ℕ → (ℕ → ℕ → ℕ) → (ℕ → ℕ → ℕ) → ℕ → ℕ → ℕ
rows n a b i k = sum n (λ j. a i j * b j k)

pub row_row : (n k : ℕ) (a b : ℕ → ℕ → ℕ) (x : ℕ → ℕ) (i : ℕ) → row n a (row k b x) i ≡ row k (rows n a b) x i
row_row n k a b x i =
    sum_ext n (λ j. a i j * sum k (λ l. b j l * x l)) (λ j. sum k (λ l. a i j * (b j l * x l)))
    (λ j h. sym (sum_mul k (a i j) (λ l. b j l * x l)))
    ∙ sum_swap n k (λ j l. a i j * (b j l * x l))
    ∙ sum_ext k (λ l. sum n (λ j. a i j * (b j l * x l))) (λ l. sum n (λ j. a i j * b j l) * x l) step
  where
    step : (l : ℕ) → l < k → sum n (λ j. a i j * (b j l * x l)) ≡ sum n (λ j. a i j * b j l) * x l
    step l h =
        sum_ext n (λ j. a i j * (b j l * x l)) (λ j. a i j * b j l * x l) (λ j g. sym (mul_assoc (a i j) (b j l) (x l)))
        ∙ sum_mul_r n (x l) (λ j. a i j * b j l)

-- column k of the identity picks column k out
pub row_pick : (n k : ℕ) (a : ℕ → ℕ → ℕ) (i : ℕ) → k < n → row n a (λ j. identity j k) i ≡ a i k
row_pick n k a i h =
    sum_one n k (λ j. a i j * identity j k) h (λ j g ne. ap (λ y. a i j * y) (identity_other j k ne) ∙ mul-zero (a i j))
    ∙ ap (λ y. a i k * y) (identity_same k)
    ∙ mul-one (a i k)

pub identity_row : (n : ℕ) (x : ℕ → ℕ) (i : ℕ) → i < n → row n identity x i ≡ x i
identity_row n x i h =
    sum_one n i (λ j. identity i j * x j) h
    (λ j g ne. ap (λ y. y * x j) (identity_other i j (λ e. ne (sym e))) ∙ zero-mul (x j))
    ∙ ap (λ y. y * x i) (identity_same i)
    ∙ one-mul (x i)

-- what a matrix does to x + c y
pub row_add : (n : ℕ) (a : ℕ → ℕ → ℕ) (x y : ℕ → ℕ) (c i : ℕ)
    → row n a (λ j. x j + c * y j) i ≡ row n a x i + c * row n a y i
row_add n a x y c i =
    sum_ext n (λ j. a i j * (x j + c * y j)) (λ j. a i j * x j + c * (a i j * y j)) (λ j l. omega arith)
    ∙ sum_add n (λ j. a i j * x j) (λ j. c * (a i j * y j))
    ∙ ap (λ s. sum n (λ j. a i j * x j) + s) (sum_mul n c (λ j. a i j * y j))

-- x and y agree modulo m below n
abbrev pub Same : ℕ → ℕ → (ℕ → ℕ) → (ℕ → ℕ) → Type 0
Same m n x y = (i : ℕ) → i < n → x i % m ≡ y i % m

pub row_same : (m n : ℕ) (a : ℕ → ℕ → ℕ) (x y : ℕ → ℕ) → Same m n x y → (i : ℕ) → row n a x i % m ≡ row n a y i % m
row_same m n a x y h i =
    sum_eq m n (λ j. a i j * x j) (λ j. a i j * y j) (λ j l. mul_eq m (a i j) (a i j) (x j) (y j) refl (h j l))

pub same_row : (m n : ℕ) (a b : ℕ → ℕ → ℕ) (x : ℕ → ℕ) (i : ℕ) → Same m n (a i) (b i)
    → row n a x i % m ≡ row n b x i % m
same_row m n a b x i h =
    sum_eq m n (λ j. a i j * x j) (λ j. b i j * x j) (λ j l. mul_eq m (a i j) (b i j) (x j) (x j) (h j l) refl)

pub row_zero : (m n : ℕ) (a : ℕ → ℕ → ℕ) (x : ℕ → ℕ) → ((i : ℕ) → i < n → x i % m ≡ 0) → (i : ℕ) → row n a x i % m ≡ 0
row_zero m n a x h i =
    row_same m n a x (λ k. 0) (λ k l. h k l ∙ sym (zero-mod m)) i
    ∙ ap (λ y. y % m) (all_0 n (λ j. a i j * 0) (λ j l. mul-zero (a i j)))
    ∙ zero-mod m

-- ---- the definitions, reduced by p
pub times_lt : (n : ℕ) (a : ℕ → ℕ → ℕ) (x : ℕ → ℕ) (i : ℕ) → times_column n a x i < P
unfolding times_column
times_lt n a x i = mod-lt (row n a x i) (omega arith)

-- only the cells below n count, and of them only what they are modulo p
pub times_same : (n : ℕ) (a b : ℕ → ℕ → ℕ) (x y : ℕ → ℕ) (i : ℕ) → Same P n (a i) (b i) → Same P n x y
    → times_column n a x i ≡ times_column n b y i
unfolding times_column
times_same n a b x y i g h = row_same P n a x y h i ∙ same_row P n a b y i g

pub times_ext : (n : ℕ) (a b : ℕ → ℕ → ℕ) (x y : ℕ → ℕ) (i : ℕ) → ((j : ℕ) → j < n → a i j ≡ b i j)
    → ((j : ℕ) → j < n → x j ≡ y j) → times_column n a x i ≡ times_column n b y i
times_ext n a b x y i g h = times_same n a b x y i (λ j l. ap (λ v. v % P) (g j l)) (λ j l. ap (λ v. v % P) (h j l))

-- column k of a product is the first matrix times column k of the second
pub product_column : (n : ℕ) (a b : ℕ → ℕ → ℕ) (i k : ℕ) → product n a b i k ≡ times_column n a (λ j. b j k) i
unfolding product times_column
product_column n a b i k = refl

pub product_ext : (n : ℕ) (a a' b b' : ℕ → ℕ → ℕ) (i k : ℕ) → ((j : ℕ) → j < n → a i j ≡ a' i j)
    → ((j : ℕ) → j < n → b j k ≡ b' j k) → product n a b i k ≡ product n a' b' i k
product_ext n a a' b b' i k g h =
    product_column n a b i k ∙ times_ext n a a' (λ j. b j k) (λ j. b' j k) i g h ∙ sym (product_column n a' b' i k)

-- one matrix after another
pub times_assoc : (n : ℕ) (a b : ℕ → ℕ → ℕ) (x : ℕ → ℕ) (i : ℕ)
    → times_column n a (times_column n b x) i ≡ times_column n (product n a b) x i
unfolding times_column product
times_assoc n a b x i =
    row_same P n a (λ j. row n b x j % P) (row n b x) (λ j l. mod-mod (row n b x j) P) i
    ∙ ap (λ v. v % P) (row_row n n a b x i)
    ∙ same_row P n (rows n a b) (λ j k. rows n a b j k % P) x i (λ k l. sym (mod-mod (rows n a b i k) P))

pub identity_times : (n : ℕ) (x : ℕ → ℕ) (i : ℕ) → i < n → x i < P → times_column n identity x i ≡ x i
unfolding times_column
identity_times n x i h l = ap (λ v. v % P) (identity_row n x i h) ∙ mod-eq_of_lt l

-- where a times b is the identity, a undoes b
pub undo : (n : ℕ) (a b : ℕ → ℕ → ℕ) → Inverse n a b → (x : ℕ → ℕ) (i : ℕ) → i < n → x i < P
    → times_column n a (times_column n b x) i ≡ x i
unfolding Inverse
undo n a b h x i l c =
    times_assoc n a b x i
    ∙ times_ext n (product n a b) identity x x i (λ k g. h i k l g) (λ j g. refl)
    ∙ identity_times n x i l c
