-- `table::initial_constant`: K_0 is what the definition adds before round 0.
-- Assumes nothing.
use Rattle.table.specs.Table.{initial_constant}
use Rattle.table.proofs.initial_constant.Goals as goal

pub returns : goal.returns
unfolding initial_constant
returns c = c.constant.ensures
