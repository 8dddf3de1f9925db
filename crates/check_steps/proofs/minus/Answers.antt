-- `check_steps::minus`: each cell and word is canonical, and twelve differences are the definition's, canonical too.
-- Assumes nothing.
use mathlib.Core.Path.{refl, ap₂, ◌∙◌}
use native.Mathlib.Omega.{arith}
use Rattle.lists.proofs.Tab.{fills_none, fills_more, fills_all}
use Rattle.field.specs.Field.{sub}
use Rattle.check_constraints.specs.Constraints.{minus}
use Rattle.check_steps.proofs.Differences.{minus_canonical}
use Rattle.check_steps.proofs.minus.Goals as goal

pub loop-j-init : goal.loop-j-init
loop-j-init c = fills_none refl

pub loop-j-preserved : goal.loop-j-preserved
loop-j-preserved c =
    fills_more c.loop-j.invariant (omega arith) (c.sub.ensures ∙ ap₂ sub c.of.ensures c.of-in-loop-j.ensures)

pub returns : goal.returns
unfolding minus
returns c =
    let made = fills_all c.loop-j.invariant (omega arith) in
    (made, minus_canonical c.args.s c.args.constant.now made)
