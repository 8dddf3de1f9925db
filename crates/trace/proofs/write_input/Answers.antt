-- `trace::write_input`: row 0 of the batch for its first hash, and for another hash no row.
-- Assumes nothing.
use mathlib.Core.Path.{◌∙◌, sym}
use native.Mathlib.Omega.{arith}
use Rattle.trace.proofs.WrittenHashes.{no_input_row, an_input_row, ranges}
use Rattle.trace.proofs.write_input.Goals as goal

pub returns-then-within-ne0 : goal.returns-then-within-ne0
returns-then-within-ne0 c =
    no_input_row _ _ _ (λ e. c.if-within-ne0.true (c.within.ensures ∙ e))

pub write_row-requires : goal.write_row-requires
write_row-requires c =
    let h = c.args.hash.0 in (
      omega (arith, c.requires, c.row.ensures, c.batch.ensures),
      omega (arith, c.requires, c.row.ensures, c.batch.ensures, (ranges h).final_last),
    )

pub returns : goal.returns
returns c =
    an_input_row _ _ _ _ c.write_row.ensures (sym c.within.ensures ∙ c.if-within-ne0.false)
    (omega (arith, c.row.ensures, c.batch.ensures))
