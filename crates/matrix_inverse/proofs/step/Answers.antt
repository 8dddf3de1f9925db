-- `matrix_inverse::step`: lifted, divided and cleared one after the other, column j is that of the identity.
-- Assumes nothing.
use Rattle.matrix_inverse.proofs.Steps.{reduces_trans}
use Rattle.matrix_inverse.proofs.step.Goals as goal

pub returns : goal.returns
returns c =
    reduces_trans _ _ _ _ _ (reduces_trans _ _ _ _ _ c.lift.ensures.0 c.divide.ensures.0) c.clear.ensures
