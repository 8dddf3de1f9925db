-- `field_montgomery::gather`: the sum of the upper parts stays below p.
-- Assumes nothing.
use Rattle.std.proofs.Common.{◌∙◌, arith}
use Rattle.field.proofs.Gathering.{Digit, digit, gather_law}
use Rattle.field_montgomery.proofs.gather.Goals as goal
use Rattle.field_montgomery.proofs.gather.Goals.{Start}

-- every need is linear in the two products
bounds : (c : Start) → Digit c.args.word c.args.a c.args.digit
bounds c = digit c.args.word c.args.a c.args.digit c.requires.0 c.requires.1 (omega (arith, c.requires.2))

pub overflow_mul-a : goal.overflow_mul-a
overflow_mul-a c = omega (arith, (bounds c).low)

pub overflow_add-a : goal.overflow_add-a
overflow_add-a c = omega (arith, (bounds c).fits c.requires.2)

pub overflow_mul-a-2 : goal.overflow_mul-a-2
overflow_mul-a-2 c = omega (arith, (bounds c).high)

pub step-requires : goal.step-requires
step-requires c = (omega (arith, (bounds c).small), c.requires.3)

pub returns : goal.returns
returns c =
    let a = c.args in
    (c.step.ensures.0 ∙ gather_law a.word a.a a.digit (bounds c.before), c.step.ensures.1)
