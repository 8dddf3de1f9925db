-- `matrix_inverse::eliminate`: the columns passed are those of the identity; a column without a pivot ends it.
-- Assumes nothing.
use Rattle.matrix_inverse.specs.EliminationHelpers.{Reduces}
use Rattle.matrix_inverse.proofs.eliminate.Given as goal

abbrev pub invariant-loop-j : goal.invariant-loop-j
invariant-loop-j l = Reduces l.initial.w l.w l.j
