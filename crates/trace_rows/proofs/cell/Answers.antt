-- `trace_rows::cell`: a cell of the row that `trace_row` lends, and the words of the trace are canonical.
-- Assumes nothing.
use native.Mathlib.Omega.{arith}
use Rattle.trace_rows.proofs.RowLaws.{length_read, cell_read}
use Rattle.trace_rows.proofs.cell.Goals as goal

pub bounds-lent-column : goal.bounds-lent-column
bounds-lent-column c =
    let size = length_read c.args.trace.now c.args.row.0 c.requires.0 c.trace_row-lent.ensures in
    omega (arith, size)

pub returns : goal.returns
returns c =
    cell_read c.args.trace.now c.args.row.0 c.requires.0 c.trace_row-lent.ensures c.requires.1
