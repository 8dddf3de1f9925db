-- `matrix_inverse::clear`: the rows passed have 0 in column j, but for row j, which has 1 there.
-- Assumes nothing.
use Rattle.matrix_inverse.proofs.Steps.{Cleared}
use Rattle.matrix_inverse.proofs.clear.Given as goal

abbrev pub invariant-loop-i : goal.invariant-loop-i
invariant-loop-i l = Cleared l.initial.w l.w l.j l.i
