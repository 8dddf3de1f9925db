-- `field_elements::Fp::inverse`: `pow` with the exponent p - 2 is the definition.
-- Assumes nothing.
use Rattle.field.specs.Field.{inverse}
use Rattle.field_elements.proofs.Fp.inverse.Goals as goal

pub returns : goal.returns
unfolding inverse
returns c = c.pow.ensures
