-- `field_montgomery::leave`: a product with 1 divides by 2^64.
-- Assumes nothing.
use Rattle.std.proofs.Common.{◌∙◌}
use Rattle.field.proofs.Forms.{times_one_word}
use Rattle.field_montgomery.proofs.leave.Goals as goal

pub returns : goal.returns
returns c = (c.times.ensures.0 ∙ times_one_word c.args.v, c.times.ensures.2)
