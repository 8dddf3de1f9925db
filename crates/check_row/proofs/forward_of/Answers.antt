-- Forward of the row at rows 1 to 30, in the columns that are tested, and zeros elsewhere: as the definition has it.
-- Assumes nothing.
use native.Mathlib.Omega.{arith}
use Rattle.check_row.proofs.Holding.{no_forward_0, no_forward_31, some_forward}
use Rattle.check_row.proofs.forward_of.Goals as goal

pub returns-in-1-to-30 : goal.returns-in-1-to-30
returns-in-1-to-30 c = some_forward _ _ _ c.within.ensures (omega arith) (omega arith) c.forward.ensures

pub returns-in_default : goal.returns-in_default
returns-in_default c = no_forward_0 _ _ _ c.within.ensures (omega arith)

pub returns-in_default-2 : goal.returns-in_default-2
returns-in_default-2 c = no_forward_31 _ _ _ c.within.ensures (omega arith)
