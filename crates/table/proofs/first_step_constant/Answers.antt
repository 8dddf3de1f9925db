-- `table::first_step_constant`: K_(2 round + 1), one of the 21, is what the definition adds in a first step.
-- Assumes nothing.
use Rattle.table.specs.Table.{first_step_constant}
use Rattle.table.proofs.first_step_constant.Goals as goal

pub returns : goal.returns
unfolding first_step_constant
returns c = c.constant.ensures
