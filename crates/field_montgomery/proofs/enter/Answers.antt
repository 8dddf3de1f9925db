-- `field_montgomery::enter`: the square of 2^64 brings the element into the form.
-- Assumes nothing.
use Rattle.std.proofs.Common.{ap, ◌∙◌}
use Rattle.field.specs.MontgomeryHelpers.{divided}
use Rattle.field.proofs.Forms.{divided_enter}
use Rattle.field_montgomery.proofs.enter.Goals as goal

pub returns : goal.returns
returns c = (
  c.times.ensures.0,
  ap divided c.times.ensures.0 ∙ divided_enter c.args.x c.requires.0,
  c.times.ensures.2,
)
