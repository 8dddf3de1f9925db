-- `trace::write_final`: row 31 of the batch for its third hash, and for another hash no row.
-- Assumes nothing.
use mathlib.Core.Path.{◌∙◌, sym}
use native.Mathlib.Omega.{arith}
use Rattle.trace.proofs.WrittenHashes.{no_final_row, a_final_row, third_ends}
use Rattle.trace.proofs.write_final.Goals as goal

pub returns-then-within-ne2 : goal.returns-then-within-ne2
returns-then-within-ne2 c =
    no_final_row _ _ _ (λ e. c.if-within-ne2.true (c.within.ensures ∙ e))

pub write_row-requires : goal.write_row-requires
write_row-requires c =
    let h = c.args.hash.0 in
    let e = sym c.within.ensures ∙ c.if-within-ne2.false in (
      omega (arith, c.requires, c.row.ensures, c.batch.ensures),
      omega (arith, c.requires, c.row.ensures, c.batch.ensures, third_ends h e),
    )

pub returns : goal.returns
returns c =
    a_final_row _ _ _ _ c.write_row.ensures (sym c.within.ensures ∙ c.if-within-ne2.false)
    (omega (arith, c.row.ensures, c.batch.ensures))
