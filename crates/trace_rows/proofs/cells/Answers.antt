-- `trace_rows::cells`: the row that `trace_row` lends has twelve words, which are canonical as the trace's are.
-- Assumes nothing.
use mathlib.Core.Path.{sym, ◌∙◌}
use Rattle.trace_rows.proofs.RowLaws.{length_read, cells_read}
use Rattle.trace_rows.proofs.cells.Goals as goal

pub copy_from_slice-requires : goal.copy_from_slice-requires
copy_from_slice-requires c = sym (length_read _ _ c.requires c.trace_row.ensures)

pub returns : goal.returns
returns c = cells_read _ _ c.requires (c.copy_from_slice.ensures.after ∙ c.trace_row.ensures)
