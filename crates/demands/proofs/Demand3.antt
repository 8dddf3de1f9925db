-- Demand 3: the checker is exact, the list is unique, reading off finds it, and a refusal names the first failing test;
-- by the words and buffers of the calls too.
-- Assumes nothing.
use mathlib.Core.Path.{◌≡◌, refl, sym, ap, ◌∙◌, subst}
use mathlib.Core.List.{List}
use mathlib.Core.Logic.{◌⊎◌, ⊎_elim, ◌↔◌, inl, inr}
use Prim.Native.Nat.{ℕ, ◌+◌, ◌*◌, ◌≤◌}
use native.Mathlib.Omega.{arith}
use lib.ListN.{length}
use Rattle.std.specs.Prelude.{Ok, Err}
use Rattle.field_words.specs.Words.{AllCanonical}
use Rattle.numbers.specs.Numbers.{IsPermitted, trace_word_batches}
use Rattle.refusals.specs.Refusals.{told, indexed}
use Rattle.refusals.specs.Answers.{Answer, with_value, leaves}
use Rattle.refusals.specs.declared.Refusal.TheVariants.{Constraint}
use Rattle.refusals.proofs.Laws.{not_accepted, value_accepted, value_refused, ends_refusal}
use Rattle.table.specs.Table.{IsTable}
use Rattle.table.proofs.Theorems.{test_sound}
use Rattle.check_constraints.specs.Constraints.{tests, constraint_test}
use Rattle.check_constraints.specs.ReadOff.{read_taps}
use Rattle.check_constraints.specs.FirstFailing.{IsFirstFailing}
use Rattle.check_constraints.proofs.TestCount.{length_tests}
use Rattle.check_trace.specs.Answers.{check_test, check_answer}
use Rattle.check_trace.proofs.Theorems.{check_verdict}
use Rattle.trace_read_off.specs.Answers.{read_off_test, read_off_answer, read_off_leaves}
use Rattle.trace_read_off.proofs.Theorems.{same_for}
use Rattle.check_exact.specs.Exact.{IsListFor, IsWholeListFor}
use Rattle.check_exact.proofs.Exactness as exact
use Rattle.call_results.specs.Code.{tests_code, Says}
use Rattle.call_results.proofs.Bits.{RefusalInBits, says, says_accepted}
use Rattle.call_answers.specs.Calls.{ReadOffCall}
use Rattle.call_answers.proofs.Theorems.{check_bits}
use Rattle.demands.specs.Demand3.{Exact, Demand3}

-- what no earlier refusal turns back
module _ (T t claim : List ℕ) (c k : ℕ) (table : IsTable T) (permitted : IsPermitted k) (low : 1 ≤ c) (high : c ≤ k)
    (size : length t ≡ 384 * k) (canonical : AllCanonical t) (claim_size : length claim ≡ 4)
    (claim_canonical : AllCanonical claim) where
  checks : check_answer T t claim c ≡ with_value (constraint_test T t claim c k) (length (tests k c))
  checks = check_verdict T t claim c k table permitted low high size canonical claim_canonical

  agrees : read_off_answer T t claim c (12 * k + 4) ≡ check_answer T t claim c
  agrees = same_for T t claim c k size

  -- an acceptance is that of the walk
  walked : (n : ℕ) → check_answer T t claim c ≡ Ok n → constraint_test T t claim c k ≡ Ok tt
  walked n e = (value_accepted (constraint_test T t claim c k) (length (tests k c)) n (sym checks ∙ e)).0

  reported : constraint_test T t claim c k ≡ Ok tt → check_answer T t claim c ≡ Ok (372 * k)
  reported e =
      checks ∙ ap (λ a. with_value a (length (tests k c))) e ∙ ap Ok (length_tests k c low high)

  accepts_exactly : (check_answer T t claim c ≡ Ok (372 * k)) ↔ ((w : List ℕ) × IsListFor T t claim c k w)
  accepts_exactly =
      let e = exact.accepts_exactly T t claim c k table permitted low high size canonical claim_size in
      (λ a. e.0 (walked (372 * k) a), λ w. reported (e.1 w))

  writes : (n : ℕ) (old : List ℕ) → length old ≡ 12 * k + 4 → read_off_answer T t claim c (length old) ≡ Ok n
      → IsListFor T t claim c k (read_off_leaves T t claim c old)
  unfolding read_off_answer read_off_leaves
  writes n old l e =
      let batches : trace_word_batches (length t) ≡ k = omega (arith, size) in
      let passes = (value_accepted (read_off_test T t claim c (length old)) _ n e).0 in
      let left = ap (λ a. leaves a (read_taps T t (trace_word_batches (length t))) old) passes in
      let checked = sym (ap (read_off_answer T t claim c) l ∙ agrees) ∙ e in
      let read = exact.reads_that_list T t claim c k table permitted low high size canonical claim_size
      (walked n checked) in
      subst (IsListFor T t claim c k) (sym (left ∙ ap (read_taps T t) batches)) read

  whole : (n : ℕ) → check_answer T t claim c ≡ Ok n → (n ≡ 372 * k) × (n ≡ length (tests k c))
  whole n e =
      let o = exact.whole_order T t claim c k table permitted low high size canonical claim_size n (sym checks ∙ e) in
      (o.1, o.0)

  decided : (a : Answer) → constraint_test T t claim c k ≡ a → (check_answer T t claim c ≡ Ok (372 * k))
      ⊎ ((i : ℕ) × (q : ℕ) × (n : ℕ) × (check_answer T t claim c ≡ Err (Constraint (record { 0 = i }) q n))
      × IsFirstFailing T t claim (tests k c) i q n)
  decided (Ok _) e = inl (reported e)
  decided (Err r) e =
      let failing = exact.first_failing T t claim c k table permitted low high size canonical claim_size in
      let f = failing (λ a. not_accepted r (sym e ∙ a)) in
      inr (f.0, f.1, f.2, checks ∙ ap (λ a. with_value a (length (tests k c))) f.3, f.4)

  -- ---- the calls
  module _ (code : ℕ) (coded : code ≡ tests_code (check_answer T t claim c)) where
    says_all : check_answer T t claim c ≡ Ok (372 * k) → Says code (indexed 0 (372 * k))
    unfolding tests_code
    says_all e = rw (coded ∙ ap tests_code e) (says_accepted (372 * k) (omega (arith, permitted.high)))

    says_failing : (i q n : ℕ) → check_answer T t claim c ≡ Err (Constraint (record { 0 = i }) q n)
        → Says code (told (Constraint (record { 0 = i }) q n))
    unfolding check_answer tests_code
    says_failing i q n e =
        let r = Constraint (record { 0 = i }) q n in
        let refused = value_refused (check_test T t claim c) _ r e in
        let inside = ends_refusal RefusalInBits (check_test T t claim c) r (check_bits T t claim c claim_size) refused in
        rw (coded ∙ ap tests_code e) (says (told r) inside)

    call_decided : Says code (indexed 0 (372 * k))
        ⊎ ((i : ℕ) × (q : ℕ) × (n : ℕ) × Says code (told (Constraint (record { 0 = i }) q n))
        × IsFirstFailing T t claim (tests k c) i q n)
    call_decided =
        ⊎_elim (λ a. inl (says_all a)) (λ f. inr (f.0, f.1, f.2, says_failing f.0 f.1 f.2 f.3, f.4))
        (decided (constraint_test T t claim c k) refl)

    said_accepted : Says code (indexed 0 (372 * k)) → check_answer T t claim c ≡ Ok (372 * k)
    said_accepted s =
        ⊎_elim (λ a. a)
        (λ f. absurd (let s11 = (says_failing f.0 f.1 f.2 f.3).number in omega (arith, s.number, s11)))
        (decided (constraint_test T t claim c k) refl)

  call_exactly : (code : ℕ) → code ≡ tests_code (check_answer T t claim c)
      → Says code (indexed 0 (372 * k)) ↔ ((w : List ℕ) × IsListFor T t claim c k w)
  call_exactly code e =
      (λ s. accepts_exactly.0 (said_accepted code e s), λ w. says_all code e (accepts_exactly.1 w))

  call_writes : (code : ℕ) (taps taps' : List ℕ) → length taps ≡ 12 * k + 4 → ReadOffCall T t claim c code taps taps'
      → (code ≡ tests_code (check_answer T t claim c))
      × (Says code (indexed 0 (372 * k)) → IsListFor T t claim c k taps')
  call_writes code taps taps' l h =
      let same = ap (read_off_answer T t claim c) l ∙ agrees in
      let e = h.coded ∙ ap tests_code same in (
        e,
        λ s. subst (IsListFor T t claim c k) (sym h.list)
            (writes (372 * k) taps l (same ∙ said_accepted code e s)),
      )

  exactly : Exact T t claim c k (IsListFor T t claim c k)
  exactly = record {
    accepts_exactly = accepts_exactly;
    no_other = λ w v l s a e.
        sym (exact.one_list_a_trace T k table permitted w v l.size l.canonical s a (l.traced ∙ sym e));
    read_off_agrees = agrees;
    read_off_writes = writes;
    whole_order = whole;
    refused_by_11 = decided (constraint_test T t claim c k) refl;
    call_exactly = call_exactly;
    call_writes = call_writes;
    call_refused_by_11 = call_decided;
  }

-- the same, said of lists in other words
said_of : (T t claim : List ℕ) (c k : ℕ) (P Q : List ℕ → Type 0) → ((w : List ℕ) → P w ↔ Q w) → Exact T t claim c k P
    → Exact T t claim c k Q
said_of T t claim c k P Q h x = record {
  accepts_exactly = (
    λ a. (let w = x.accepts_exactly.0 a in (w.0, (h w.0).0 w.1)),
    λ w. x.accepts_exactly.1 (w.0, (h w.0).1 w.1),
  );
  no_other = λ w v l. x.no_other w v ((h w).1 l);
  read_off_agrees = x.read_off_agrees;
  read_off_writes = λ n old l e. (h (read_off_leaves T t claim c old)).0 (x.read_off_writes n old l e);
  whole_order = x.whole_order;
  refused_by_11 = x.refused_by_11;
  call_exactly = λ code e. (
    λ s. (let w = (x.call_exactly code e).0 s in (w.0, (h w.0).0 w.1)),
    λ w. (x.call_exactly code e).1 (w.0, (h w.0).1 w.1),
  );
  call_writes = λ code taps taps' l r.
      ((x.call_writes code taps taps' l r).0, λ s. (h taps').0 ((x.call_writes code taps taps' l r).1 s));
  call_refused_by_11 = x.call_refused_by_11;
}

-- ---- the demand
pub demand_3 : Demand3
demand_3 = record {
  exact = λ T t claim c k table permitted low high size canonical four claim_canonical.
      exactly T t claim c k (test_sound T table) permitted low high size canonical four claim_canonical;
  exact_whole = λ T t claim k table permitted size canonical four claim_canonical.
      said_of T t claim k k (IsListFor T t claim k k) (IsWholeListFor T t claim k) (exact.whole_list T t claim k)
      (exactly T t claim k k (test_sound T table) permitted permitted.low (omega arith) size canonical four
      claim_canonical);
}
