-- `matrix_inverse::lift`: where the pivot's row is not row j, row j has 0 in column j, and the sum has the pivot there.
-- Assumes nothing.
use Rattle.matrix_inverse.proofs.Steps.{lifted}
use Rattle.matrix_inverse.proofs.lift.Goals as goal

pub returns-then-j-r : goal.returns-then-j-r
returns-then-j-r c =
    lifted _ _ _ _ c.requires.0 c.requires.1 c.requires.2 c.if-j-r.true c.add_row.ensures
