-- `field_elements::Fp::pow`: the word that enters stands for the element, and one times its power leaves as the power.
-- Assumes nothing.
use mathlib.Core.Path.{ap, ◌∙◌}
use native.Mathlib.Omega.{arith}
use Rattle.field.specs.Field.{mul, power}
use Rattle.field.proofs.Power.{one_times}
use Rattle.field_elements.proofs.Fp.pow.Goals as goal

pub returns : goal.returns
returns c =
    let a = c.args in
    c.leave.ensures.0
    ∙ c.power_times-w.ensures.0
    ∙ ap (λ x. mul 1 (power x a.exponent)) c.enter-v.ensures.1
    ∙ one_times a.self.word a.exponent (omega arith)
