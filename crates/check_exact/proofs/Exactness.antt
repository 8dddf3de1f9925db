-- Exactness (document 00, demand 3): for every accepted table, permitted k, and trace and claim of words below p, what
-- acceptance and refusal mean. It holds for every invertible M: no maximum-distance property is asked for. Of the claim
-- only the length is asked, since no output holds a word of p or above.
-- Assumes nothing.
use mathlib.Core.Path.{◌≡◌, sym, ap, ◌∙◌}
use mathlib.Core.Logic.{◌↔◌}
use mathlib.Core.List.{List}
use Prim.Native.Nat.{ℕ, ◌+◌, ◌*◌, ◌≤◌}
use lib.ListN.{length}
use Rattle.std.specs.Prelude.{Ok, Err}
use Rattle.field_words.specs.Words.{AllCanonical}
use Rattle.numbers.specs.Numbers.{IsPermitted}
use Rattle.refusals.specs.declared.Refusal.TheVariants.{Constraint}
use Rattle.refusals.specs.Answers.{with_value}
use Rattle.refusals.proofs.Laws.{value_accepted}
use Rattle.table.specs.Table.{IsTable}
use Rattle.hash.specs.Hash.{chain, first_taps}
use Rattle.hash_chain.proofs.FirstTaps.{chain_first}
use Rattle.trace.specs.Trace.{trace}
use Rattle.check_constraints.specs.Constraints.{tests, constraint_test}
use Rattle.check_constraints.specs.FirstFailing.{AllHold, IsFirstFailing}
use Rattle.check_constraints.specs.ReadOff.{read_taps}
use Rattle.check_constraints.proofs.Equations.{Equations, equations_hold, hold_equations}
use Rattle.check_constraints.proofs.TestList.{test_list}
use Rattle.check_constraints.proofs.TestCount.{length_tests}
use Rattle.check_constraints.proofs.WalkLaws as walks
use Rattle.check_exact.specs.Exact.{IsListFor, IsWholeListFor}
use Rattle.check_exact.proofs.ReadList.{is_list_for}
use Rattle.check_exact.proofs.Built.{reads_back, meets_equations}

-- every test of the order holds exactly where the equations do
tests_say : (T t claim : List ℕ) (c k : ℕ) → AllHold T t claim (tests k c) ↔ Equations T t claim c k
tests_say T t claim c k = (
  λ a. hold_equations T t claim k c
      (λ i q l e. a (record { at = i; number = q }) ((test_list k c (record { at = i; number = q })).1 (l, e))),
  λ q x m. (let s = (test_list k c x).0 m in equations_hold T t claim k c q x.at x.number s.0 s.1),
)

-- ---- lists of taps and the traces built from them
module _ (T : List ℕ) (k : ℕ) (table : IsTable T) (permitted : IsPermitted k) where
  -- for every c, a built trace is accepted under the output of the first 3c + 1 taps
  pub accepts_built : (c : ℕ) (w : List ℕ) → length w ≡ 12 * k + 4 → AllCanonical w
      → constraint_test T (trace T w k) (chain T (first_taps c w) c) c k ≡ Ok tt
  accepts_built c w size canonical =
      ap (λ claim. constraint_test T (trace T w k) claim c k) (chain_first T w c)
      ∙ walks.all_hold_accepted T (trace T w k) (chain T w c) k c
      ((tests_say T (trace T w k) (chain T w c) c k).1 (meets_equations T w k table size canonical c))

  -- so under the output its building returned; and reading it off yields the taps that it was built from
  pub reading_off_a_built_trace : (w : List ℕ) → length w ≡ 12 * k + 4 → AllCanonical w
      → (constraint_test T (trace T w k) (chain T w k) k k ≡ Ok tt) × (read_taps T (trace T w k) k ≡ w)
  reading_off_a_built_trace w size canonical = (
    ap (λ claim. constraint_test T (trace T w k) claim k k) (sym (chain_first T w k)) ∙ accepts_built k w size canonical,
    reads_back T w k table size canonical permitted.low,
  )

  -- two lists that have the same trace are the same
  pub one_list_a_trace : (w v : List ℕ) → length w ≡ 12 * k + 4 → AllCanonical w → length v ≡ 12 * k + 4
      → AllCanonical v → trace T w k ≡ trace T v k → w ≡ v
  one_list_a_trace w v size canonical size' canonical' e =
      sym (reading_off_a_built_trace w size canonical).1
      ∙ ap (λ t. read_taps T t k) e
      ∙ (reading_off_a_built_trace v size' canonical').1

-- ---- any trace and any claim, with any c from 1 to k
module _ (T t claim : List ℕ) (c k : ℕ) (table : IsTable T) (permitted : IsPermitted k) (low : 1 ≤ c) (high : c ≤ k)
    (size : length t ≡ 384 * k) (canonical : AllCanonical t) (four : length claim ≡ 4) where
  -- an accepted trace reports the whole of the order, which is 372 × k tests
  pub whole_order : (n : ℕ) → with_value (constraint_test T t claim c k) (length (tests k c)) ≡ Ok n
      → (n ≡ length (tests k c)) × (n ≡ 372 * k)
  whole_order n e =
      let all = sym (value_accepted (constraint_test T t claim c k) (length (tests k c)) n e).1 in
      (all, all ∙ length_tests k c low high)

  -- reading off an accepted trace yields a list whose first 3c + 1 taps chain to the claim and that has this trace
  pub reads_that_list : constraint_test T t claim c k ≡ Ok tt → IsListFor T t claim c k (read_taps T t k)
  reads_that_list e =
      is_list_for T t claim c k table low high size canonical four
      ((tests_say T t claim c k).0 (walks.accepted_all_hold T t claim k c e))

  -- accepted exactly when there is such a list
  pub accepts_exactly : (constraint_test T t claim c k ≡ Ok tt) ↔ ((w : List ℕ) × IsListFor T t claim c k w)
  accepts_exactly = (λ e. (read_taps T t k, reads_that_list e), λ s. from s.0 s.1)
    where
      from : (w : List ℕ) → IsListFor T t claim c k w → constraint_test T t claim c k ≡ Ok tt
      from w l =
          sym (ap (λ x. constraint_test T x claim c k) l.traced)
          ∙ sym (ap (λ x. constraint_test T (trace T w k) x c k) l.chains)
          ∙ accepts_built T k table permitted c w l.size l.canonical

  -- and no other list has it
  pub only_one : (w v : List ℕ) → IsListFor T t claim c k w → IsListFor T t claim c k v → w ≡ v
  only_one w v l m =
      one_list_a_trace T k table permitted w v l.size l.canonical m.size m.canonical
      (l.traced ∙ sym m.traced)

  -- a trace that is not accepted is refused with 11, and with row, constraint and place of the first test of the order
  -- that fails
  pub first_failing : (constraint_test T t claim c k ≡ Ok tt → ⊥)
      → (i : ℕ) × (q : ℕ) × (n : ℕ) × (constraint_test T t claim c k ≡ Err (Constraint (record { 0 = i }) q n))
      × IsFirstFailing T t claim (tests k c) i q n
  first_failing never =
      let r = walks.else_first_failing T t claim k c never in
      (r.0, r.1, r.2, r.3, walks.refused_first_failing T t claim k c r.0 r.1 r.2 r.3)

  pub refuses_exactly : (i q n : ℕ) → (constraint_test T t claim c k ≡ Err (Constraint (record { 0 = i }) q n))
      ↔ IsFirstFailing T t claim (tests k c) i q n
  refuses_exactly i q n =
      (walks.refused_first_failing T t claim k c i q n, walks.first_failing_refused T t claim k c i q n)

-- ---- the case c = k: the whole list chains to the claim
pub whole_list : (T t claim : List ℕ) (k : ℕ) (w : List ℕ) → IsListFor T t claim k k w ↔ IsWholeListFor T t claim k w
whole_list T t claim k w = (
  λ l. record {
    size = l.size;
    canonical = l.canonical;
    chains = sym (chain_first T w k) ∙ l.chains;
    traced = l.traced;
  },
  λ l. record {
    size = l.size;
    canonical = l.canonical;
    chains = chain_first T w k ∙ l.chains;
    traced = l.traced;
  },
)
