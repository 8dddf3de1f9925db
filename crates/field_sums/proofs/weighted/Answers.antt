-- `field_sums::weighted`: a product with the constants in Montgomery's form is one with the weights.
-- Assumes nothing.
use Rattle.std.proofs.Common.{◌∙◌}
use Rattle.field_sums.proofs.Weights.{weighted_law}
use Rattle.field_sums.proofs.weighted.Goals as goal

pub returns : goal.returns
returns c = c.multiply.ensures ∙ weighted_law c.args.s.words
