-- `hash::first_step`: the roots come divided by 2^128, for which M made ready makes up; then the round's first-step
-- constant is added. What each call hands on is canonical.
-- Assumes nothing.
use mathlib.Core.Path.{ap₂, ◌∙◌}
use Rattle.table.proofs.ReadyLaws.{ready_is}
use Rattle.hash.specs.Hash.{plus, first_step}
use Rattle.hash.proofs.CodeMix.{mixed_roots}
use Rattle.hash.proofs.first_step.Goals as goal

pub mix-mixed-requires : goal.mix-mixed-requires
mix-mixed-requires c = ready_is _ _ c.args.ready.made

pub returns : goal.returns
unfolding first_step
returns c =
    let a = c.args in
    c.plus.ensures
    ∙ ap₂ plus
    (mixed_roots _ _ _ _ a.ready.made c.mix-mixed.ensures a.s c.requires.1 c.scaled_roots.ensures)
    c.first_step_constant.ensures.0
