-- `matrix_inverse::invert`: the matrix with the identity beside it is eliminated. Then the right half is the inverse;
-- or a column without a pivot gives a non-zero column that the matrix takes to zeros.
-- Assumes nothing.
use mathlib.Core.Path.{sym, subst}
use Rattle.matrix.specs.Matrix.{IsInverse}
use Rattle.matrix_inverse.specs.EliminationHelpers.{Working, Reduces, Stuck}
use Rattle.matrix_inverse.proofs.Inversion.{start_working, no_pivot, inverted}
use Rattle.matrix_inverse.proofs.invert.Goals as goal

pub eliminate-requires : goal.eliminate-requires
eliminate-requires c =
    subst Working (sym c.start-w.ensures) (start_working _ c.requires.0 c.requires.1)

pub returns-in_err-eliminate : goal.returns-in_err-eliminate
returns-in_err-eliminate c =
    rw c.from_residual.ensures (no_pivot _ (subst Stuck c.start-w.ensures c.in_err-eliminate.ensures))

pub returns : goal.returns
returns c =
    let m = c.args.m.now in
    let w = c.eliminate.new.w in
    subst (IsInverse m) (sym c.right_half.ensures)
    (inverted m w (subst (λ u. Reduces u w 12) c.start-w.ensures c.in_ok-eliminate.ensures))
