-- The table, its test, and what Prepare writes (document 01, "The table").
-- Assumes nothing.
use Rattle.std.specs.Prelude.{◌≡◌, Bool, not, List, ◌++◌, ℕ, ◌+◌, ◌*◌, ◌/◌, ◌%◌, ◌<◌, eqb, length, take, drop, Ok, Err}
use Rattle.lists.specs.Lists.{first}
use Rattle.field_words.specs.Words.{AllCanonical, first_bad}
use Rattle.numbers.specs.Numbers.{width}
use Rattle.matrix.specs.Matrix.{matrix_words, entry, product, identity, Inverse, Kernel, IsInverse}
use Rattle.refusals.specs.declared.Refusal.{Refusal}
use Rattle.refusals.specs.declared.Refusal.TheVariants.{TableLength, TableWord, NoInverse, WrongInverse}
use Rattle.refusals.specs.declared.Refusal.TheVariants.{DestinationLength}
use Rattle.refusals.specs.Answers.{Answer, unless}

-- ---- how many words: the raw table, the prepared one
abbrev pub raw_words : ℕ
raw_words = 396

abbrev pub table_words : ℕ
table_words = 540

-- ---- the prepared table T: M, its inverse, then K_0 to K_20, twelve words each
unfoldable pub matrix_of : List ℕ → List ℕ
matrix_of T = take matrix_words T

unfoldable pub inverse_of : List ℕ → List ℕ
inverse_of T = take matrix_words (drop matrix_words T)

-- K_n
unfoldable pub constant : List ℕ → ℕ → List ℕ
constant T n = take width (drop (2 * matrix_words + width * n) T)

-- the constants by what adds them: K_0 before round 0, K_(2r+1) in the first step of round r, K_(2r+2) in its second
unfoldable pub initial_constant : List ℕ → List ℕ
initial_constant T = constant T 0

unfoldable pub first_step_constant : List ℕ → ℕ → List ℕ
first_step_constant T r = constant T (2 * r + 1)

unfoldable pub second_step_constant : List ℕ → ℕ → List ℕ
second_step_constant T r = constant T (2 * r + 2)

-- ---- the table test

-- whether cell n = 12 × row + column of M times the stored inverse is unlike the identity
unfoldable pub unlike : List ℕ → ℕ → Bool
unlike T n =
    not (eqb (product width (entry (matrix_of T)) (entry (inverse_of T)) (n / width) (n % width))
    (identity (n / width) (n % width)))

-- the first such cell, or 144
unfoldable pub first_unlike : List ℕ → ℕ
first_unlike T = first matrix_words (unlike T)

-- the table test of every operation but Prepare: 1, 2, 4
unfoldable pub table_test : List ℕ → Answer
table_test T =
    unless (eqb (length T) table_words) TableLength
    (unless (eqb (first_bad T) table_words) (TableWord (first_bad T))
    (unless (eqb (first_unlike T) matrix_words) (WrongInverse (first_unlike T))
    (Ok tt)))

-- cell n of M times the stored inverse is like the identity
abbrev pub IsLike : List ℕ → ℕ → Type 0
IsLike T n =
    product width (entry (matrix_of T)) (entry (inverse_of T)) (n / width) (n % width) ≡ identity (n / width) (n % width)

-- n is the first cell, row by row, that is not
pub record IsFirstUnlike (T : List ℕ) (n : ℕ) : Type 0 where
  pub within : n < matrix_words
  pub other : IsLike T n → ⊥
  pub before : (m : ℕ) → m < n → IsLike T m

-- an accepted table: all words canonical, and M times the stored inverse the identity
pub record IsTable (T : List ℕ) : Type 0 where
  pub size : length T ≡ table_words
  pub canonical : AllCanonical T
  pub inverse : Inverse width (entry (matrix_of T)) (entry (inverse_of T))

-- ---- the raw table: M, then K_0 to K_20. Prepare: 1, 8, 2, 3
abbrev pub raw_matrix : List ℕ → List ℕ
raw_matrix raw = take matrix_words raw

-- n is the inverse of the raw table's M, which determines it
abbrev pub RawInverse : List ℕ → List ℕ → Type 0
RawInverse raw n = IsInverse (raw_matrix raw) n

-- M, its inverse, then K
abbrev pub prepared : List ℕ → List ℕ → List ℕ
prepared raw n = raw_matrix raw ++ (n ++ drop matrix_words raw)

-- what Prepare refuses before it looks for an inverse
unfoldable pub raw_test : List ℕ → ℕ → Answer
raw_test raw size =
    unless (eqb (length raw) raw_words) TableLength
    (unless (eqb size table_words) DestinationLength
    (unless (eqb (first_bad raw) raw_words) (TableWord (first_bad raw))
    (Ok tt)))

-- what Prepare answers and leaves in the destination: the prepared table, 3 where M takes some non-zero column to all
-- zeros, or the refusal of its tests
pub data Prepares (raw old : List ℕ) : Answer → List ℕ → Type 0 where
  accepts : (n : List ℕ) → raw_test raw (length old) ≡ Ok tt → RawInverse raw n
      → Prepares raw old (Ok tt) (prepared raw n)
  no_inverse : raw_test raw (length old) ≡ Ok tt → Kernel width (entry (raw_matrix raw))
      → Prepares raw old (Err NoInverse) old
  refuses : (r : Refusal) → raw_test raw (length old) ≡ Err r → Prepares raw old (Err r) old
