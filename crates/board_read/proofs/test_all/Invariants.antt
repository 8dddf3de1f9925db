-- `board_read::test_all`: what is left to test decides, and each element that is accepted leaves the rest.
-- Assumes nothing.
use mathlib.Core.Path.{◌≡◌}
use Prim.Native.Nat.{◌+◌, ◌*◌, ◌-◌}
use Rattle.board_words.specs.Elements.{elements_test}
use Rattle.board_read.proofs.test_all.Given as goal

abbrev pub invariant-loop-i : goal.invariant-loop-i
invariant-loop-i l = elements_test l.file (l.index + 3 * l.i) (l.count - l.i) ≡ elements_test l.file l.index l.count
