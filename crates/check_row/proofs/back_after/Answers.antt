-- Back of the next row at rows 0 to 29, where the batch has a next row, and zeros elsewhere: as the definition has it.
-- Assumes nothing.
use native.Mathlib.Omega.{arith}
use Rattle.check_row.proofs.Holding.{no_back, some_back}
use Rattle.check_row.proofs.back_after.Goals as goal

pub returns-in-0-to-29 : goal.returns-in-0-to-29
returns-in-0-to-29 c = some_back _ _ _ c.within.ensures (omega arith) c.next.ensures c.back.ensures

pub returns-in_default : goal.returns-in_default
returns-in_default c = no_back _ _ _ c.within.ensures (omega arith)
