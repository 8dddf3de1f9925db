-- `board_to_short::test_elements`: the elements passed are accepted, and those that one word does not hold are counted;
-- what is left to test decides, and last the length.
-- Assumes nothing.
use mathlib.Core.Path.{◌≡◌}
use Prim.Native.Nat.{◌+◌, ◌*◌, ◌-◌, ◌≤◌}
use Rattle.lists.specs.Lists.{choose, cell, sum}
use Rattle.board_words.specs.Elements.{elements_at, elements_test}
use Rattle.board_short_words.specs.Short.{is_small}
use Rattle.board_to_short.proofs.test_elements.Given as goal

abbrev pub invariant-loop-i : goal.invariant-loop-i
invariant-loop-i l =
    (l.threes ≤ l.i) × (l.threes ≡ sum l.i (λ n. choose (is_small (cell (elements_at l.file 1 l.count) n)) 0 1))
    × (elements_test l.file (1 + 3 * l.i) (l.count - l.i) ≡ elements_test l.file 1 l.count)
