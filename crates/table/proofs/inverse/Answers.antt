-- `table::inverse`: the inverse is the 144 words after M.
-- Assumes nothing.
use mathlib.Core.Path.{refl}
use Rattle.table.specs.Table.{inverse_of}
use Rattle.table.proofs.inverse.Goals as goal

pub returns : goal.returns
unfolding inverse_of
returns c = refl
