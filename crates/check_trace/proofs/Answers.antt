-- What the tests of Check say where they accept, and that they accept what passes each of them.
-- Assumes nothing.
use mathlib.Core.Path.{◌≡◌, sym, ap, ◌∙◌}
use mathlib.Core.List.{List}
use mathlib.Core.Logic.{◌⊎◌, ⊎_elim}
use Prim.Native.Nat.{ℕ, ◌*◌, ◌^◌, ◌≤◌, ◌<◌}
use native.Mathlib.Omega.{arith}
use lib.ListN.{length}
use Rattle.std.specs.Prelude.{Result, Ok, Err}
use Rattle.field_words.specs.Words.{AllCanonical, first_bad, canonical_words}
use Rattle.field_words.proofs.Laws.{good_test, test_good}
use Rattle.numbers.specs.Numbers.{IsPermitted, most_batches, trace_word_batches}
use Rattle.numbers.proofs.Laws.{trace_length_sound, trace_length_complete}
use Rattle.refusals.specs.declared.Refusal.{Refusal}
use Rattle.refusals.specs.declared.Refusal.TheVariants.{ClaimWord, TraceWord, ClaimBatches}
use Rattle.refusals.specs.Answers.{Answer, unless, with_value}
use Rattle.refusals.proofs.Laws.{passed, both_accepted, one_test_refused, one_test_passed}
use Rattle.table.specs.Table.{IsTable, table_test}
use Rattle.table.proofs.Theorems.{test_sound, test_complete}
use Rattle.check_constraints.specs.Constraints.{constraint_test}
use Rattle.check_constraints.proofs.Families.{range, in_range, under, over}
use Rattle.check_trace.specs.Answers.{opening_test, trace_test, check_test}

-- a table, a trace of k batches and a c with nothing to refuse before 9
pub record Opened (T t : List ℕ) (c k : ℕ) : Type 0 where
  pub table : IsTable T
  pub permitted : IsPermitted k
  pub size : length t ≡ 384 * k
  pub low : 1 ≤ c
  pub high : c ≤ k

module _ (T t : List ℕ) (c : ℕ) where
  pub opened : opening_test T t c ≡ Ok tt → Opened T t c (trace_word_batches (length t))
  unfolding opening_test
  opened e =
      let a = both_accepted (table_test T) _ e in
      let b = passed _ _ _ a.1 in
      let r = range 1 _ c (passed _ _ _ b.1).0 in
      let s = trace_length_sound most_batches (length t) b.0 in
      record {
        table = test_sound T a.0;
        permitted = s.1;
        size = s.0;
        low = r.0;
        high = r.1;
      }

  pub opens : (k : ℕ) → Opened T t c k → opening_test T t c ≡ Ok tt
  unfolding opening_test
  opens k h =
      let s = trace_length_complete most_batches (length t) k h.size h.permitted in
      rw (test_complete T h.table, s.0, s.1, in_range 1 k c h.low h.high)

  -- and a c that is 0 or above k gets 17
  pub unclaimed : (k : ℕ) → table_test T ≡ Ok tt → IsPermitted k → length t ≡ 384 * k → (c ≡ 0) ⊎ (k < c)
      → opening_test T t c ≡ Err ClaimBatches
  unfolding opening_test
  unclaimed k table permitted size out =
      let s = trace_length_complete most_batches (length t) k size permitted in
      rw (table, s.0, s.1, ⊎_elim (λ z. under 1 k c (omega arith)) (over 1 k c) out)

-- nothing to refuse before 11
pub record CheckInputs (T t claim : List ℕ) (c k : ℕ) : Type 0 where
  pub opening : Opened T t c k
  pub claim_canonical : AllCanonical claim
  pub canonical : AllCanonical t

module _ (T t claim : List ℕ) (c : ℕ) where
  pub check_inputs : check_test T t claim c ≡ Ok tt → let k = trace_word_batches (length t) in
      CheckInputs T t claim c k × (constraint_test T t claim c k ≡ Ok tt)
  unfolding check_test trace_test
  check_inputs e =
      let a = both_accepted (opening_test T t c) _ e in
      let b = passed _ _ _ a.1 in
      let d = passed _ _ _ b.1 in (
        record {
          opening = opened T t c a.0;
          claim_canonical = good_test claim b.0;
          canonical = good_test t d.0;
        },
        d.1,
      )

  -- such inputs leave the answer to the walk
  pub check_reaches : (k : ℕ) → CheckInputs T t claim c k → check_test T t claim c ≡ constraint_test T t claim c k
  unfolding check_test trace_test
  check_reaches k h =
      let o = h.opening in
      rw (opens T t c k o, test_good claim h.claim_canonical, test_good t h.canonical)
      (ap (constraint_test T t claim c) (trace_length_complete most_batches (length t) k o.size o.permitted).1)

  pub check_passes : (k : ℕ) → CheckInputs T t claim c k → constraint_test T t claim c k ≡ Ok tt
      → check_test T t claim c ≡ Ok tt
  check_passes k h e = check_reaches k h ∙ e

-- ---- what a function learns from the tests that it passes, one after the other

-- what is left to be tested from 10 on
abbrev pub from_words : List ℕ → List ℕ → List ℕ → ℕ → ℕ → Answer
from_words T t claim c k = unless (canonical_words t) (TraceWord (first_bad t)) (constraint_test T t claim c k)

-- a is what the opening tests answered; and k, which the trace's length tells, is few enough for the walk
pub opened_by : (T t : List ℕ) (c : ℕ) {a : Answer} → a ≡ opening_test T t c → a ≡ Ok tt
    → Opened T t c (trace_word_batches (length t)) × (trace_word_batches (length t) < 2 ^ 32)
opened_by T t c e q =
    let o = opened T t c (sym e ∙ q) in
    (o, omega (arith, o.permitted.high))

-- a is what the test of the claim's words answered
module _ (T t claim : List ℕ) (c k : ℕ) {o a : Answer}
    (e : a ≡ unless (canonical_words claim) (ClaimWord (first_bad claim)) (Ok tt)) where
  pub claim_refused : {r : Refusal} → a ≡ Err r → o ≡ Err r → o ≡ trace_test T t claim c k
  unfolding trace_test
  claim_refused q p =
      one_test_refused (canonical_words claim) (ClaimWord (first_bad claim)) e (from_words T t claim c k) q p

  pub claim_passed : a ≡ Ok tt → o ≡ from_words T t claim c k → o ≡ trace_test T t claim c k
  unfolding trace_test
  claim_passed q p = one_test_passed (canonical_words claim) (ClaimWord (first_bad claim)) e q p

-- and what that of the trace's words did
module _ (T t claim : List ℕ) (c k : ℕ) {o a : Answer}
    (e : a ≡ unless (canonical_words t) (TraceWord (first_bad t)) (Ok tt)) where
  pub words_refused : {r : Refusal} → a ≡ Err r → o ≡ Err r → o ≡ from_words T t claim c k
  words_refused q p = one_test_refused (canonical_words t) (TraceWord (first_bad t)) e _ q p

  pub words_passed : a ≡ Ok tt → o ≡ constraint_test T t claim c k → o ≡ from_words T t claim c k
  words_passed q p = one_test_passed (canonical_words t) (TraceWord (first_bad t)) e q p

pub canonical_words_lem : (t : List ℕ) {a : Answer} → a ≡ unless (canonical_words t) (TraceWord (first_bad t)) (Ok tt)
    → a ≡ Ok tt → AllCanonical t
canonical_words_lem t e q = good_test t (passed (canonical_words t) (TraceWord (first_bad t)) (Ok tt) (sym e ∙ q)).0

-- what the last tests answered is the answer of all, where those before leave it to them
pub walked : (n : ℕ) {o : Result ℕ Refusal} (last : Answer) {all : Answer} → o ≡ with_value last n → last ≡ all
    → o ≡ with_value all n
walked n last q p = q ∙ ap (λ x. with_value x n) p
