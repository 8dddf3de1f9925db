-- `matrix_ready::mix`: after each step the words are the parts of the rows' sums gathered so far, and after the last
-- they are the product's cells.
-- Assumes nothing.
use mathlib.Core.Path.{◌≡◌}
use Prim.Native.Nat.{◌≤◌}
use Rattle.lists.specs.Lists.{cell}
use Rattle.matrix_ready.proofs.RowWords.{row_words}
use Rattle.matrix_ready.specs.MixingHelpers.{ready_entry}
use Rattle.matrix_ready.proofs.mix.Given as goal

abbrev pub invariant-loop-step : goal.invariant-loop-step
invariant-loop-step l = (l.step ≤ 6) × (l.words.words ≡ row_words (ready_entry l.ready) (cell l.s.words) l.step)
