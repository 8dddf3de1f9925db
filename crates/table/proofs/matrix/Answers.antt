-- `table::matrix`: M is the table's first 144 words.
-- Assumes nothing.
use mathlib.Core.Path.{refl}
use Rattle.table.specs.Table.{matrix_of}
use Rattle.table.proofs.matrix.Goals as goal

pub returns : goal.returns
unfolding matrix_of
returns c = refl
