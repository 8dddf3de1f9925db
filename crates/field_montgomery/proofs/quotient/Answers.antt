-- `field_montgomery::quotient`: no canonical word reaches 2^62, so that nothing is shifted out.
-- Assumes nothing.
use Rattle.std.proofs.Common.{◌≡◌, ◌/◌, ◌^◌, ap, arith}
use Rattle.field_montgomery.proofs.quotient.Goals as goal

pub returns : goal.returns
returns c =
    let z : c.args.x / 4611686018427387904 ≡ 0 = omega arith in
    ap (λ k. 536870932 / 2 ^ k) z
