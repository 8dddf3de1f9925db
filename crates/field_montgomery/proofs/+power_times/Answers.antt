-- `field_montgomery::power_times`: the exponent is halved while the base is squared, and at an odd one the base goes into the
-- accumulator. Each of the three returns is a law of powers in Montgomery's form.
-- Assumes nothing.
use Rattle.std.proofs.Common.{sym, ap, ◌∙◌, arith}
use Rattle.field.specs.Field.{mul, power}
use Rattle.field.specs.MontgomeryHelpers.{divided}
use Rattle.field.proofs.Power.{times_one, times_even, times_odd}
use Rattle.field.proofs.Forms.{divided_lt}
use Rattle.field_montgomery.proofs.+power_times.Goals as goal

pub returns-then-e-eq0 : goal.returns-then-e-eq0
returns-then-e-eq0 t c =
    let start = c.args in
    let acc = divided start.acc in
    let x = divided start.x in (
      sym (ap (λ e. mul acc (power x e)) c.if-e-eq0.true ∙ times_one acc x (divided_lt start.acc)),
      c.requires.0,
    )

pub times-square-requires : goal.times-square-requires
times-square-requires t c = (c.requires.1, c.requires.1, c.requires.2)

pub power_times-requires : goal.power_times-requires
power_times-requires t c =
    let pre = c.requires in (omega arith, (pre.0, c.times-square.ensures.2, pre.2))

pub returns-then-e-eq0-2 : goal.returns-then-e-eq0-2
returns-then-e-eq0-2 t c =
    let start = c.args in (
      times_even (divided start.acc) (divided start.x) start.e _ _ (omega arith) (omega arith)
          c.times-square.ensures.1 c.power_times.ensures.0,
      c.power_times.ensures.1,
    )

pub times-requires : goal.times-requires
times-requires t c = c.requires

pub power_times-requires-2 : goal.power_times-requires-2
power_times-requires-2 t c =
    (omega arith, (c.times.ensures.2, c.times-square.ensures.2, c.requires.2))

pub returns : goal.returns
returns t c =
    let start = c.args in (
      times_odd (divided start.acc) (divided start.x) start.e _ _ _ (omega arith) (omega arith)
          c.times.ensures.1 c.times-square.ensures.1 c.power_times-2.ensures.0,
      c.power_times-2.ensures.1,
    )
