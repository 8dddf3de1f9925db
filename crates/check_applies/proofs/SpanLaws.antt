-- The span of a row: no constraint below its low or from its end on applies there, however many batches there are and
-- wherever the claim stands, which is shown by the families that apply at the row's number within its batch.
-- Assumes nothing.
use mathlib.Core.Path.{◌≡◌, refl, sym, subst}
use mathlib.Core.Bool.{Bool, true, false}
use mathlib.Core.Logic.{inl, inr, ⊎_elim}
use Prim.Native.Nat.{ℕ, ◌≤◌, ◌<◌}
use native.Mathlib.Decide.{ℕ_discrete, dec_le}
use native.Mathlib.Nat.{mod-lt}
use native.Mathlib.Omega.{arith}
use borrow.Author.Tests.{eq-eqb, ne_eqb, le-leb, lt-leb}
use Rattle.numbers.specs.Numbers.{within}
use Rattle.check_constraints.specs.Constraints.{entering, applies}
use Rattle.check_constraints.proofs.Families.{Applies, applies_cases, zero_columns, new_zeros, starts}
use Rattle.check_constraints.proofs.Families.{output_kept, goes_on}
use Rattle.check_constraints.proofs.Families.{ends, joins, claims}
use Rattle.check_constraints.proofs.ForwardBack.{enters_at, enters_not_at}
use Rattle.check_applies.specs.declared.Span.{Span}
use Rattle.check_applies.specs.SpanHelpers.{span, span_of}

-- ---- the constraints that can apply at row i stand from low on and before end
pub record Spans (i low end : ℕ) : Type 0 where
  pub from_one : 1 ≤ low
  pub some : low < end
  pub to_last : end ≤ 53
  pub below : (k c q : ℕ) → q < low → applies k c i q ≡ false
  pub above : (k c q : ℕ) → end ≤ q → applies k c i q ≡ false

-- from low to end there is room for the constraints of row w of a batch
record Room (w low end : ℕ) : Type 0 where
  at_0 : w ≡ 0 → (low ≤ 1) × (21 ≤ end)
  at_10 : w ≡ 10 → (low ≤ 5) × (25 ≤ end)
  at_20 : w ≡ 20 → (low ≤ 5) × (25 ≤ end)
  middle : 1 ≤ w → w ≤ 29 → (low ≤ 21) × (25 ≤ end)
  others : 1 ≤ w → w ≤ 29 → (w ≡ 10 → ⊥) → (w ≡ 20 → ⊥) → 33 ≤ end
  at_30 : w ≡ 30 → (low ≤ 33) × (45 ≤ end)
  at_31 : w ≡ 31 → (low ≤ 45) × (53 ≤ end)

not_entering : (i : ℕ) → entering i ≡ false → (within i ≡ 10 → ⊥) × (within i ≡ 20 → ⊥)
not_entering i e = (λ z. enters_not_at i e (inl z), λ z. enters_not_at i e (inr z))

within_span : (k c i q low end : ℕ) → Room (within i) low end → Applies k c i q → (low ≤ q) × (q < end)
within_span k c i q low end room (zero_columns j l e r) = omega (arith, room.at_0 r)
within_span k c i q low end room (new_zeros j l e r) =
    ⊎_elim (λ h. omega (arith, room.at_10 h)) (λ h. omega (arith, room.at_20 h)) (enters_at i r)
within_span k c i q low end room (starts j l e r) = omega (arith, room.at_0 r)
within_span k c i q low end room (output_kept j l e r s) = omega (arith, room.middle r s)
within_span k c i q low end room (goes_on j f l e r s n) =
    let h = not_entering i n in
    omega (arith, room.middle r s, room.others r s h.0 h.1)
within_span k c i q low end room (ends j l e r) = omega (arith, room.at_30 r)
within_span k c i q low end room (joins j l e r n) = omega (arith, room.at_31 r)
within_span k c i q low end room (claims j l e r) = omega (arith, room.at_31 (omega arith))

-- what does not apply
not_there : (k c i q : ℕ) → (Applies k c i q → ⊥) → applies k c i q ≡ false
not_there k c i q h = go (applies k c i q) refl
  where
    go : (b : Bool) → applies k c i q ≡ b → b ≡ false
    go true e = absurd (h (applies_cases k c i q e))
    go false e = refl

spans : (i low end : ℕ) → 1 ≤ low → low < end → end ≤ 53 → Room (within i) low end → Spans i low end
spans i low end a b d room = record {
  from_one = a;
  some = b;
  to_last = d;
  below = λ k c q h. not_there k c i q (λ p. omega (arith, within_span k c i q low end room p));
  above = λ k c q h. not_there k c i q (λ p. omega (arith, within_span k c i q low end room p));
}

-- those of the definition do
module _ (i : ℕ) where
  -- a span that has room, and is the definition's
  fitting : (low end : ℕ) → span low end ≡ span_of i → 1 ≤ low → low < end → end ≤ 53 → Room (within i) low end
      → Spans i (span_of i).0 (span_of i).1
  fitting low end e a b d room = subst (λ s. Spans i s.0 s.1) e (spans i low end a b d room)

  all_span : Spans i (span_of i).0 (span_of i).1
  all_span = go (ℕ_discrete (within i) 0) (entering i) refl (dec_le (within i) 29) (ℕ_discrete (within i) 30)
    where
      go : Dec (within i ≡ 0) → (n : Bool) → entering i ≡ n → Dec (within i ≤ 29) → Dec (within i ≡ 30)
          → Spans i (span_of i).0 (span_of i).1
      go (yes z) n f m l =
          fitting 1 21 (rw (eq-eqb (within i) 0 z)) (omega arith) (omega arith) (omega arith) (omega arith)
      go (no z) true f m l =
          let e : span 5 25 ≡ span_of i = rw (ne_eqb (within i) 0 z, f) in
          ⊎_elim (λ h. fitting 5 25 e (omega arith) (omega arith) (omega arith) (omega arith))
          (λ h. fitting 5 25 e (omega arith) (omega arith) (omega arith) (omega arith))
          (enters_at i f)
      go (no z) false f (yes m) l =
          let h = not_entering i f in
          fitting 21 33 (rw (ne_eqb (within i) 0 z, f, le-leb (within i) 29 m)) (omega arith) (omega arith)
          (omega arith) (omega (arith, h.0, h.1))
      go (no z) false f (no m) (yes l) =
          let e : span 33 45 ≡ span_of i =
          rw (ne_eqb (within i) 0 z, f, lt-leb (within i) 29 (omega arith), eq-eqb (within i) 30 l) in
          fitting 33 45 e (omega arith) (omega arith) (omega arith) (omega arith)
      go (no z) false f (no m) (no l) =
          let e : span 45 53 ≡ span_of i =
          rw (ne_eqb (within i) 0 z, f, lt-leb (within i) 29 (omega arith), ne_eqb (within i) 30 l) in
          fitting 45 53 e (omega arith) (omega arith) (omega arith)
          (omega (arith, mod-lt i {m = 32} (omega arith)))

  pub spanned : {s : Span} → s ≡ span_of i → Spans i s.0 s.1
  spanned e = subst (λ s. Spans i s.0 s.1) (sym e) all_span
