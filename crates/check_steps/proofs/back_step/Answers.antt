-- `check_steps::back_step`: the cells are the cubes of the stored inverse times the differences, as the back scale makes
-- up for the divisions.
-- Assumes nothing.
use Rattle.check_steps.proofs.Made.{back_is, undone_made}
use Rattle.check_steps.proofs.back_step.Goals as goal

pub mix-requires : goal.mix-requires
mix-requires c = back_is _ _ c.args.back.made

pub returns : goal.returns
returns c =
    undone_made _ _ _ _ _ _ _ c.args.round c.args.back.made c.first_step_constant.ensures.0 c.minus.ensures.0
    c.mix.ensures c.montgomery_cubes.ensures
