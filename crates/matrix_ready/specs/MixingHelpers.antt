-- A matrix made ready for many columns: by columns, each entry with the weight of its term, and 2^31 times that.
-- Assumes nothing.
use Rattle.std.specs.Prelude.{◌≡◌, List, ℕ, ◌+◌, ◌*◌, ◌-◌, ◌/◌, ◌%◌, ◌^◌, ◌<◌, ltb, length}
use Rattle.lists.specs.Lists.{choose, cell, tab}
use Rattle.field.specs.Field.{P, Canonical}
use Rattle.field.specs.Gathering.{half_inverse}
use Rattle.field.specs.MontgomeryHelpers.{times_word}
use Rattle.numbers.specs.Numbers.{width}
use Rattle.field_sums.specs.Sums.{weight}
use Rattle.matrix.specs.Matrix.{entry}

-- how many words: a column, and all
abbrev pub column_words : ℕ
column_words = 24

abbrev pub ready_words : ℕ
ready_words = 288

-- entry (i, j) of m times the scale, with the weight of its term, divided by 2^64
abbrev pub weighted_entry : List ℕ → ℕ → ℕ → ℕ → ℕ
weighted_entry m scale i j = times_word (entry m i j) (weight j * scale % P)

-- word k of column j: the entries, then 2^31 times each
abbrev pub column_word : List ℕ → ℕ → ℕ → ℕ → ℕ
column_word m scale j k =
    choose (ltb k width) (weighted_entry m scale k j) (2 ^ 31 * weighted_entry m scale (k - width) j % P)

unfoldable pub ready : List ℕ → ℕ → List ℕ
ready m scale = tab ready_words (λ t. column_word m scale (t / column_words) (t % column_words))

-- what a matrix made ready is, whatever it was made from
pub record IsReady (r : List ℕ) : Type 0 where
  pub size : length r ≡ ready_words
  pub canonical : (i j : ℕ) → i < width → j < width → Canonical (cell r (column_words * j + i))
  pub raised : (i j : ℕ) → i < width → j < width
      → cell r (column_words * j + width + i) ≡ 2 ^ 31 * cell r (column_words * j + i) % P

-- entry (i, j) of the matrix that was made ready: without the weight of its term
unfoldable pub ready_entry : List ℕ → ℕ → ℕ → ℕ
ready_entry r i j = cell r (column_words * j + i) * half_inverse ^ (width - j) % P
