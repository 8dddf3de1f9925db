-- `field_montgomery::settle`: the two upper bits of a wrapped difference are both clear or both set.
-- Assumes nothing.
use Rattle.std.proofs.Common.{◌≡◌, ◌+◌, ◌%◌, ◌^◌, arith}
use Rattle.field.specs.Field.{P}
use Rattle.field.proofs.Steps.{settled}
use Rattle.field_montgomery.proofs.settle.Goals as goal

pub returns : goal.returns
returns c =
    let mask = c.wrapping_sub_u64 in
    let r = c.wrapping_add_u64.result in
    let x = c.args.x in
    let e : r ≡ (x + P) % 2 ^ 64 % P =
    settled x mask.result r (omega arith) c.requires (omega arith) mask.ensures.value
    c.wrapping_add_u64.ensures.value in
    (e, omega (arith, e))
