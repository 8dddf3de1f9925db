-- `board_read::read_all`: the destination is filled from the front with the elements.
-- Assumes nothing.
use mathlib.Core.Path.{◌≡◌}
use Prim.Native.Nat.{◌+◌, ◌*◌}
use Rattle.lists.proofs.Tab.{filled}
use Rattle.board_words.specs.Elements.{element_at}
use Rattle.board_read.proofs.read_all.Given as goal

abbrev pub invariant-loop-i : goal.invariant-loop-i
invariant-loop-i l =
    l.destination ≡ filled l.i (λ n. element_at l.file (l.index + 3 * n)) l.initial.destination
