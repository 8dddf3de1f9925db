-- `board_short_words::measure`: of the elements passed, those that one word does not hold are counted, and those that
-- are not canonical.
-- Assumes nothing.
use mathlib.Core.Path.{◌≡◌}
use Prim.Native.Nat.{◌≤◌}
use Rattle.lists.specs.Lists.{cell, sum}
use Rattle.board_short_words.proofs.Words.{is_three, is_bad}
use Rattle.board_short_words.proofs.measure.Given as goal

abbrev pub invariant-loop-element : goal.invariant-loop-element
invariant-loop-element l =
    (l.threes ≤ l.element-index) × (l.bad ≤ l.element-index)
    × (l.threes ≡ sum l.element-index (λ n. is_three (cell l.elements n)))
    × (l.bad ≡ sum l.element-index (λ n. is_bad (cell l.elements n)))
