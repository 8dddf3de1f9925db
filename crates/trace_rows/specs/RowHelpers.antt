-- What the readers of a row ask of a lent trace (document 01, "The trace"), and the columns of forward that are tested.
-- Assumes nothing.
use Rattle.std.specs.Prelude.{List, ℕ, ◌+◌, ◌*◌, ◌^◌, ◌≤◌, ◌<◌, length}
use Rattle.lists.specs.Lists.{choose}
use Rattle.field_words.specs.Words.{AllCanonical}
use Rattle.numbers.specs.Numbers.{width, batch_rows}
use Rattle.check_constraints.specs.Constraints.{entering}

-- row n of batch b lies in the trace; the bound on b keeps its row number inside a word
pub record LentRow (t : List ℕ) (b n : ℕ) : Type 0 where
  pub few : b < 2 ^ 32
  pub within : n < batch_rows
  pub inside : width * (batch_rows * b + n) + width ≤ length t

-- all words of the trace are canonical, and it has a row i
pub record HasRow (t : List ℕ) (i : ℕ) : Type 0 where
  pub canonical : AllCanonical t
  pub inside : width * i + width ≤ length t
  pub small : i < 2 ^ 37

-- how many columns of forward are tested at row i: at rows 10 and 20 columns 0 to 3 only
abbrev pub tested_columns : ℕ → ℕ
tested_columns i = choose (entering i) 4 width
