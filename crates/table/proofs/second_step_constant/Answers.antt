-- `table::second_step_constant`: K_(2 round + 2), one of the 21, is what the definition adds in a second step.
-- Assumes nothing.
use Rattle.table.specs.Table.{second_step_constant}
use Rattle.table.proofs.second_step_constant.Goals as goal

pub returns : goal.returns
unfolding second_step_constant
returns c = c.constant.ensures
