-- Back of a row, from its round and its cells: the step undone is the definition's at both (`back_made`).
-- Assumes nothing.
use Rattle.trace_rows.proofs.RowLaws.{back_made}
use Rattle.trace_rows.proofs.back.Goals as goal

pub returns : goal.returns
returns c = back_made _ _ c.args.row.0 c.round_of.ensures.0 c.cells.ensures.0 c.back_step.ensures
