-- `matrix_ready::add_two_columns`: the words passed are those after the step, and the others are as they were.
-- Assumes nothing.
use Prim.Native.Nat.{◌+◌, ◌*◌}
use Rattle.lists.specs.Lists.{cell}
use Rattle.lists.proofs.Tab.{Fills}
use Rattle.field.specs.Gathering.{gathered}
use Rattle.matrix_ready.proofs.add_two_columns.Given as goal

abbrev pub invariant-loop-i : goal.invariant-loop-i
invariant-loop-i l =
    Fills 12
    (λ i. gathered (gathered (cell l.initial.word-items i) (cell l.ready (24 * l.j + i)) l.x)
    (cell l.ready (24 * (l.j + 1) + i)) l.y)
    l.initial.word-items l.i l.word-items
