-- `board_short_read::test_all`: what is left to test decides, and each element that is accepted leaves the rest.
-- Assumes nothing.
use mathlib.Core.Path.{◌≡◌}
use Prim.Native.Nat.{◌*◌, ◌-◌, ◌≤◌}
use lib.ListN.{length}
use Rattle.board_short_read.specs.Reading.{shorts_test}
use Rattle.board_short_read.proofs.test_all.Given as goal

abbrev pub invariant-loop : goal.invariant-loop
invariant-loop l =
    (4 * l.at ≤ length l.file)
    × (shorts_test l.file l.at (l.count - l.counter) ≡ shorts_test l.file l.index l.count)
