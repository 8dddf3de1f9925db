-- `matrix_inverse::add_row`: the words of row r passed are written with the sums, and the rest is as it was.
-- Assumes nothing.
use Rattle.matrix_inverse.specs.EliminationHelpers.{RowSet, added_row}
use Rattle.matrix_inverse.proofs.add_row.Given as goal

abbrev pub invariant-loop-l : goal.invariant-loop-l
invariant-loop-l l = RowSet l.initial.w l.w l.r l.l (added_row l.initial.w l.r l.j l.fn.c.word)
