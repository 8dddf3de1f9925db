-- Matrices over the field (document 01, "The table": M is 12 × 12, row by row).
-- Assumes nothing.
use Rattle.std.specs.Prelude.{◌≡◌, List, ℕ, ◌+◌, ◌*◌, ◌%◌, ◌<◌, eqb, length}
use Rattle.lists.specs.Lists.{choose, cell, tab, sum}
use Rattle.field.specs.Field.{P, Canonical}
use Rattle.field_words.specs.Words.{AllCanonical}
use Rattle.numbers.specs.Numbers.{width}

-- cell i of a matrix of n columns times a column
unfoldable pub times_column : ℕ → (ℕ → ℕ → ℕ) → (ℕ → ℕ) → ℕ → ℕ
times_column n a x i = sum n (λ j. a i j * x j) % P

-- the cell in row i and column k of a product of two matrices of size n
unfoldable pub product : ℕ → (ℕ → ℕ → ℕ) → (ℕ → ℕ → ℕ) → ℕ → ℕ → ℕ
product n a b i k = sum n (λ j. a i j * b j k) % P

-- 1 on the diagonal, else 0
abbrev pub identity : ℕ → ℕ → ℕ
identity i k = choose (eqb i k) 1 0

-- a times b is the identity
unfoldable pub Inverse : ℕ → (ℕ → ℕ → ℕ) → (ℕ → ℕ → ℕ) → Type 0
Inverse n a b = (i k : ℕ) → i < n → k < n → product n a b i k ≡ identity i k

-- a non-zero column of canonical words that a takes to all zeros
pub record Kernel (n : ℕ) (a : ℕ → ℕ → ℕ) : Type 0 where
  pub column : ℕ → ℕ
  pub canonical : (i : ℕ) → i < n → Canonical (column i)
  pub place : ℕ
  pub within : place < n
  pub nonzero : 0 < column place
  pub zeros : (i : ℕ) → i < n → times_column n a column i ≡ 0

-- ---- as wide as a state, row by row
abbrev pub matrix_words : ℕ
matrix_words = 144

abbrev pub entry : List ℕ → ℕ → ℕ → ℕ
entry m i j = cell m (width * i + j)

unfoldable pub times : List ℕ → List ℕ → List ℕ
times m s = tab width (times_column width (entry m) (cell s))

-- n is the inverse of m, which m determines
pub record IsInverse (m n : List ℕ) : Type 0 where
  pub size : length n ≡ matrix_words
  pub canonical : AllCanonical n
  pub inverse : Inverse width (entry m) (entry n)
