use mathlib.Core.Path.{sym, ap₂, ◌∙◌}
use Rattle.field.specs.Field.{add}
use Rattle.field.specs.MontgomeryHelpers.{times_word}
use Rattle.field.proofs.Forms.{times_entered}
use Rattle.matrix_inverse.proofs.Rows.{row_more, row_next, row_other}
use Rattle.matrix_inverse.proofs.add_row.Goals as goal

pub loop-l-preserved : goal.loop-l-preserved
loop-l-preserved c =
    let p = c.requires in
    let t = c.loop-l-test.true in
    let row = c.loop-l.invariant in
    let here = row_next _ _ _ _ _ p.0 t row in
    let there = row_other _ _ _ _ _ row _ _ p.1 t (λ e. p.2 (sym e)) in
    let factors = ap₂ times_word there c.enter-factor.ensures.0 in
    let part = c.of-in-loop-l.ensures ∙ c.times-part.ensures.0 ∙ factors ∙ times_entered _ _ c.args.c.canonical in
    row_more _ _ _ _ _ _ p.3.size p.0 t row (c.add.ensures ∙ ap₂ add (c.of.ensures ∙ here) part)
