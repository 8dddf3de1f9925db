-- `field_sums::raised`: a product with the constant in Montgomery's form is one with 2^31.
-- Assumes nothing.
use Rattle.std.proofs.Common.{◌∙◌}
use Rattle.field_sums.proofs.Weights.{raised_law}
use Rattle.field_sums.proofs.raised.Goals as goal

pub returns : goal.returns
returns c = c.multiply.ensures ∙ raised_law c.args.s.words
