-- Forward of a row in the columns that are tested: the second step of its round, and at rows 10 and 20 K_0 as well
-- (`forward_plain`, `forward_entering`).
-- Assumes nothing.
use mathlib.Core.Path.{sym, ◌∙◌}
use Rattle.trace_rows.proofs.RowLaws.{forward_plain, forward_entering, second_canonical}
use Rattle.trace_rows.proofs.forward.Goals as goal

pub plus_entering-requires : goal.plus_entering-requires
plus_entering-requires c = (c.args.ready.accepted, second_canonical 4 _ _ _ c.forward_step-next.ensures)

pub returns-then-is_entering : goal.returns-then-is_entering
returns-then-is_entering c =
    forward_entering _ _ c.args.row.0 c.round_of.ensures.0 c.cells-s.ensures.0
    (sym c.is_entering.ensures ∙ c.if-is_entering.true) c.forward_step-next.ensures c.plus_entering.ensures

pub returns : goal.returns
returns c =
    forward_plain _ _ c.args.row.0 c.round_of-2.ensures.0 c.cells-s.ensures.0
    (sym c.is_entering.ensures ∙ c.if-is_entering.false) c.forward_step.ensures
