-- Where a constraint applies: its family's rows are the definition's (`Families` of the constraints).
-- Assumes nothing.
use mathlib.Core.Path.{◌≡◌, sym, ◌∙◌}
use Prim.Native.Nat.{◌-◌}
use native.Mathlib.Omega.{arith}
use borrow.Author.Tests.{eq-eqb, ne_eqb}
use Rattle.check_constraints.proofs.Families.{applies_zeros, applies_new_zeros, applies_starts, applies_middle}
use Rattle.check_constraints.proofs.Families.{applies_ends, applies_joins, applies_claims}
use Rattle.check_applies.proofs.applies.Goals as goal

pub returns-in-Zeros : goal.returns-in-Zeros
returns-in-Zeros c = rw c.within.ensures (sym (applies_zeros _ _ _ _ (omega arith) (omega arith)))

pub returns-in-NewZeros : goal.returns-in-NewZeros
returns-in-NewZeros c = c.is_entering.ensures ∙ sym (applies_new_zeros _ _ _ _ (omega arith) (omega arith))

pub returns-in-Starts : goal.returns-in-Starts
returns-in-Starts c =
    rw c.within-in-Starts.ensures (sym (applies_starts _ _ _ _ (omega arith) (omega arith)))

pub returns-in-GoesOn : goal.returns-in-GoesOn
returns-in-GoesOn c =
    let column : c.in-GoesOn.column ≡ c.args.constraint - 21 = omega arith in
    rw (c.is_middle.ensures, column) (sym (applies_middle _ _ _ _ (omega arith) (omega arith)))

pub returns-in-Ends : goal.returns-in-Ends
returns-in-Ends c = rw c.within-in-Ends.ensures (sym (applies_ends _ _ _ _ (omega arith) (omega arith)))

pub returns-then-within-eq-JOINED_ROW : goal.returns-then-within-eq-JOINED_ROW
returns-then-within-eq-JOINED_ROW c =
    let a = c.args in
    let joined : c.within-in-Joins.result.0 ≡ 31 = c.if-within-eq-JOINED_ROW.true in
    rw (
      applies_joins a.k a.c a.row.0 a.constraint (omega arith) (omega arith),
      ← c.within-in-Joins.ensures,
      eq-eqb _ _ joined,
      c.is_last_row.ensures,
    )

pub returns-else-within-eq-JOINED_ROW : goal.returns-else-within-eq-JOINED_ROW
returns-else-within-eq-JOINED_ROW c =
    let a = c.args in
    rw (
      applies_joins a.k a.c a.row.0 a.constraint (omega arith) (omega arith),
      ← c.within-in-Joins.ensures,
      ne_eqb _ _ c.if-within-eq-JOINED_ROW.false,
    )

pub returns-in-Claims : goal.returns-in-Claims
returns-in-Claims c = c.is_claim_row.ensures ∙ sym (applies_claims _ _ _ _ (omega arith) (omega arith))
