-- The input of a hash: row 0 of its batch for the first of three, back less K_0 of its first row for the others, as the
-- definition has it.
-- Assumes nothing.
use mathlib.Core.Path.{sym, ap, ◌∙◌}
use native.Mathlib.Omega.{arith}
use Rattle.check_constraints.specs.Constraints.{minus}
use Rattle.trace_read_off.proofs.ReadLaws.{row_read, back_read, back_canonical}
use Rattle.trace_read_off.proofs.read_input.Goals as goal

pub returns-then-within-eq0 : goal.returns-then-within-eq0
returns-then-within-eq0 c =
    row_read _ _ _ _ (sym c.within.ensures ∙ c.if-within-eq0.true)
    (omega (arith, c.row.ensures, c.batch.ensures)) c.cells.ensures.0

pub minus-requires : goal.minus-requires
minus-requires c =
    let constant = c.initial_constant.ensures in
    (back_canonical _ _ _ c.back-state.ensures, constant.1, constant.2)

pub returns : goal.returns
returns c =
    back_read _ _ _ _ (λ z. c.if-within-eq0.false (c.within.ensures ∙ z)) c.first_row.ensures
    c.back-state.ensures (c.minus.ensures.0 ∙ ap (minus _) c.initial_constant.ensures.0)
