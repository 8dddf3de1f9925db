-- What the tests of one row compare (document 01, "The 52 constraints").
-- Assumes nothing.
use Rattle.std.specs.Prelude.{◌≡◌, true, List, ℕ, ◌+◌, ◌^◌, ◌<◌, leb, length, replicate}
use Rattle.lists.specs.Lists.{choose}
use Rattle.field_words.specs.Words.{AllCanonical}
use Rattle.check_steps.specs.StepHelpers.{columns}
use Rattle.trace_rows.specs.RowHelpers.{tested_columns}
use Rattle.numbers.specs.Numbers.{trace_row_count, trace_words, width, within}
use Rattle.check_constraints.specs.Constraints.{between, forward, back, applies}

-- the tested columns of forward of row i, at rows 1 to 30; no test asks for it elsewhere
unfoldable pub forward_of : List ℕ → List ℕ → ℕ → List ℕ
forward_of T t i = choose (between 1 30 (within i)) (columns (tested_columns i) (forward T t i)) (replicate width 0)

-- back of row i + 1, at rows 0 to 29; no test asks for it elsewhere
unfoldable pub back_after : List ℕ → List ℕ → ℕ → List ℕ
back_after T t i = choose (leb (within i) 29) (back T t (i + 1)) (replicate width 0)

-- row i of a trace of k batches, whose words are canonical
pub record InTrace (t : List ℕ) (i : ℕ) : Type 0 where
  pub k : ℕ
  pub canonical : AllCanonical t
  pub size : length t ≡ trace_words k
  pub few : k < 2 ^ 32
  pub inside : i < trace_row_count k

-- constraint q applies at row i of the trace
pub record AppliesIn (t : List ℕ) (i q : ℕ) : Type 0 where
  pub place : InTrace t i
  pub c : ℕ
  pub applied : applies place.k c i q ≡ true
