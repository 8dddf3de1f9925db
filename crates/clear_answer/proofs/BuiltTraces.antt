-- The verdict on a built trace is about the claim alone: accepted where the taps chain to it, and else refused at the
-- last row, for the first word of their output that is another than the claim's.
-- Assumes nothing.
use mathlib.Core.Path.{◌≡◌, refl, sym, ap, ◌∙◌}
use mathlib.Core.Logic.{◌⊎◌, inl, inr}
use mathlib.Core.List.{List}
use Prim.Native.Nat.{ℕ, zero, suc, ◌+◌, ◌*◌, ◌-◌, ◌<◌}
use native.Mathlib.Decide.{ℕ_discrete, dec_lt}
use native.Mathlib.Omega.{arith}
use borrow.Author.Tests.{eq-eqb}
use lib.Dec.{eqb}
use lib.ListN.{length}
use lib.Seq.{ext_get_or}
use Rattle.std.specs.Prelude.{Ok, Err}
use Rattle.lists.specs.Lists.{choose, cell}
use Rattle.field_words.specs.Words.{AllCanonical}
use Rattle.numbers.specs.Numbers.{IsPermitted}
use Rattle.refusals.specs.declared.Refusal.TheVariants.{Constraint}
use Rattle.table.specs.Table.{IsTable}
use Rattle.hash.specs.Hash.{chain}
use Rattle.trace.specs.Trace.{trace}
use Rattle.check_constraints.specs.Constraints.{constraint_test}
use Rattle.check_constraints.proofs.ClaimRow.{other_claim_fails}
use Rattle.check_constraints.proofs.WalkLaws.{accepted_all_hold, first_failing_refused}
use Rattle.check_exact.proofs.Exactness.{reading_off_a_built_trace}

-- ---- two lists: word j is the first of n that is unlike
pub record FirstUnlike (s t : List ℕ) (n j : ℕ) : Type 0 where
  pub word : j < n
  pub other : cell s j ≡ cell t j → ⊥
  pub before : (m : ℕ) → m < j → cell s m ≡ cell t m

-- the first n words are alike, or one of them is the first that is not
alike_or_not : (s t : List ℕ) (n : ℕ)
    → ((m : ℕ) → m < n → cell s m ≡ cell t m) ⊎ ((j : ℕ) × FirstUnlike s t n j)
alike_or_not s t zero = inl (λ m h. absurd (omega arith))
alike_or_not s t (suc n) = go (alike_or_not s t n) (ℕ_discrete (cell s n) (cell t n))
  where
    go : ((m : ℕ) → m < n → cell s m ≡ cell t m) ⊎ ((j : ℕ) × FirstUnlike s t n j) → Dec (cell s n ≡ cell t n)
        → ((m : ℕ) → m < suc n → cell s m ≡ cell t m) ⊎ ((j : ℕ) × FirstUnlike s t (suc n) j)
    go (inr (j, u)) d = inr (j, record { word = omega (arith, u.word); other = u.other; before = u.before })
    go (inl a) (no e) = inr (n, record { word = omega arith; other = e; before = a })
    go (inl a) (yes e) = inl all
      where
        at : (m : ℕ) → m < suc n → Dec (m < n) → cell s m ≡ cell t m
        at m h (yes l) = a m l
        at m h (no l) =
            let same : m ≡ n = omega arith in
            ap (cell s) same ∙ e ∙ ap (cell t) (sym same)

        all : (m : ℕ) → m < suc n → cell s m ≡ cell t m
        all m h = at m h (dec_lt m n)

pub same_or_unlike : (s t : List ℕ) (n : ℕ) → length s ≡ n → length t ≡ n
    → (s ≡ t) ⊎ ((j : ℕ) × FirstUnlike s t n j)
same_or_unlike s t n size size' = go (alike_or_not s t n)
  where
    go : ((m : ℕ) → m < n → cell s m ≡ cell t m) ⊎ ((j : ℕ) × FirstUnlike s t n j)
        → (s ≡ t) ⊎ ((j : ℕ) × FirstUnlike s t n j)
    go (inl a) = inl (ext_get_or 0 s t (size ∙ sym size') (λ m h. a m (omega arith)))
    go (inr u) = inr u

-- ---- the verdict
module _ (T w : List ℕ) (k : ℕ) (table : IsTable T) (permitted : IsPermitted k) (size : length w ≡ 12 * k + 4)
    (canonical : AllCanonical w) (claim : List ℕ) where
  own_output : constraint_test T (trace T w k) (chain T w k) k k ≡ Ok tt
  own_output = (reading_off_a_built_trace T k table permitted w size canonical).0

  pub chains_accepted : chain T w k ≡ claim → constraint_test T (trace T w k) claim k k ≡ Ok tt
  chains_accepted e = sym (ap (λ d. constraint_test T (trace T w k) d k k) e) ∙ own_output

  pub unlike_refused : (j : ℕ) → FirstUnlike (chain T w k) claim 4 j
      → constraint_test T (trace T w k) claim k k
      ≡ Err (Constraint (record { 0 = 32 * k - 1 }) (49 + j) (372 * k - 3 + j))
  unlike_refused j u =
      let hold = accepted_all_hold T (trace T w k) (chain T w k) k k own_output in
      let fails =
      other_claim_fails T (trace T w k) (chain T w k) claim k k j permitted.low (omega arith) u.word hold
      (λ e. u.other (sym e)) (λ m h. sym (u.before m h)) in
      let last : 32 * (k - 1) + 31 ≡ 32 * k - 1 = omega (arith, permitted.low) in
      first_failing_refused T (trace T w k) claim k k _ _ _ fails
      ∙ ap (λ i. Err (Constraint (record { 0 = i }) (49 + j) (choose (eqb k k) (372 * k - 3) (372 * k + 1) + j))) last
      ∙ rw (eq-eqb k k refl)
