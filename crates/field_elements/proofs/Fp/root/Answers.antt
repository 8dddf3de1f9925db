-- `field_elements::Fp::root`: `pow` with the exponent (2p - 1) / 3 is the definition.
-- Assumes nothing.
use Rattle.field.specs.Field.{root}
use Rattle.field_elements.proofs.Fp.root.Goals as goal

pub returns : goal.returns
unfolding root
returns c = c.pow.ensures
