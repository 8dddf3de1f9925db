-- Request 6: claims that end before the rows do. From the order of the tests for every c (crate `check_constraints`,
-- proofs/ClaimRow.antt), what is known where an order of tests ends with 17 (crate `call_answers`, proofs/Endings), and
-- demands 2 and 3.
-- Assumes nothing.
use mathlib.Core.Path.{◌≡◌, refl, sym, ap, ◌∙◌}
use mathlib.Core.Bool.{false}
use mathlib.Core.List.{List}
use mathlib.Core.Logic.{◌⊎◌, ◌↔◌}
use Prim.Native.Nat.{ℕ, ◌+◌, ◌*◌, ◌-◌, ◌≤◌, ◌<◌}
use native.Mathlib.Omega.{arith}
use lib.Dec.{eqb}
use lib.ListN.{length, take}
use Rattle.std.specs.Prelude.{Ok, Err}
use Rattle.lists.specs.Lists.{cell}
use Rattle.field_words.specs.Words.{AllCanonical}
use Rattle.numbers.specs.Numbers.{IsPermitted, trace_word_batches}
use Rattle.refusals.specs.Refusals.{told}
use Rattle.refusals.specs.Answers.{Answer, with_value}
use Rattle.refusals.specs.declared.Refusal.{Refusal}
use Rattle.refusals.specs.declared.Refusal.TheVariants.{TapWord, TraceLength, DestinationLength, ClaimWord, TraceWord}
use Rattle.refusals.specs.declared.Refusal.TheVariants.{Constraint, NoSuchTap, ClaimBatches}
use Rattle.refusals.proofs.Laws.{AnswerEnds, value_refused, value_accepted}
use Rattle.table.specs.Table.{table_test}
use Rattle.table.proofs.Theorems.{test_complete}
use Rattle.hash.specs.Hash.{chain, first_taps}
use Rattle.hash_chain.proofs.FirstTaps.{chain_first}
use Rattle.trace.specs.Trace.{row}
use Rattle.check_constraints.specs.Constraints.{tests, constraint_test}
use Rattle.check_constraints.specs.ReadOff.{read_taps}
use Rattle.check_constraints.proofs.TestList.{test_list}
use Rattle.check_constraints.proofs.TestCount.{length_tests}
use Rattle.check_constraints.proofs.WalkLaws.{accepted_all_hold, first_failing_refused}
use Rattle.check_constraints.proofs.ClaimRow.{other_rows, row_31, claim_places, claim_only, other_claim_fails}
use Rattle.check_trace.specs.Answers.{opening_test, check_test, check_answer}
use Rattle.check_trace.proofs.Answers.{Opened, CheckInputs, check_inputs, unclaimed}
use Rattle.check_trace.proofs.Theorems.{check_verdict}
use Rattle.trace_read_off.specs.Answers.{read_off_test, read_off_answer}
use Rattle.trace_edit.specs.Answers.{edit_test, edit_answer}
use Rattle.check_exact.specs.Exact.{IsListFor}
use Rattle.check_exact.proofs.Exactness.{reads_that_list}
use Rattle.call_results.specs.Code.{code as code_of_lem, tests_code, number_in, Says}
use Rattle.call_answers.specs.Calls.{ReadOffCall, edit_call_test, edit_call, EditCall}
use Rattle.call_results.proofs.Bits.{RefusalInBits, says}
use Rattle.call_answers.proofs.Endings.Trace.{TraceCauses}
use Rattle.call_answers.proofs.Endings.Check as check
use Rattle.call_answers.proofs.Endings.ReadOff as read_off
use Rattle.call_answers.proofs.Endings.Edit as edit
use Rattle.call_answers.proofs.Theorems as bits
use Rattle.demands.specs.Request6.{row31, claim_place, OutOfRange, Request6}
use Rattle.demands.proofs.Demand1.Words.{digest_none}
use Rattle.demands.proofs.Demand2.{output_is_tap, shown}
use Rattle.demands.proofs.Demand3.{demand_3}
use Rattle.demands.proofs.OneNumber as one
use Rattle.demands.proofs.Request4.{word_says}

-- ---- of a refusal only 17 matters here
module _ (T t claim : List ℕ) (c : ℕ) where
  abbrev Of17 : Refusal → Type 0
  Of17 = one.Of 17 (OutOfRange T t c)

  other : (r : Refusal) → eqb (told r).number 17 ≡ false → Of17 r
  other = one.other 17 (OutOfRange T t c)

  in_answer : (a : Answer) → AnswerEnds Of17 a → a ≡ Err ClaimBatches → OutOfRange T t c
  in_answer a = one.in_answer 17 (OutOfRange T t c) a ClaimBatches refl

  in_word : (a : Answer) (m code : ℕ) → code ≡ tests_code (with_value a m) → AnswerEnds RefusalInBits a
      → AnswerEnds Of17 a → Says code (told ClaimBatches) → OutOfRange T t c
  unfolding tests_code code_of_lem
  in_word (Ok _) m code e b h s = absurd (omega (arith, s.number))
  in_word (Err r) m code e b h s =
      h (sym (says (told r) b).number ∙ ap number_in (sym e) ∙ s.number)

  -- ---- where the tests of each operation end with it
  out : (k : ℕ) → table_test T ≡ Ok tt → IsPermitted k → length t ≡ 384 * k → (c ≡ 0) ⊎ (k < c)
      → Of17 ClaimBatches
  out k e p s o z = record { table = e; k = k; permitted = p; size = s; out = o }

  causes : TraceCauses Of17 T t claim c
  causes = record {
    of_table = one.table_causes_lem 17 (OutOfRange T t c) refl refl refl;
    by_length = λ z. other TraceLength refl;
    by_batches = out;
    by_claim = λ i h. other (ClaimWord i) refl;
    by_word = λ k s p i h. other (TraceWord i) refl;
  }

  check_ends : AnswerEnds Of17 (check_test T t claim c)
  check_ends =
      check.check_ends Of17 T t claim c causes
      (λ h i q n f. other (Constraint (record { 0 = i }) q n) refl)

  read_off_ends : (size : ℕ) → AnswerEnds Of17 (read_off_test T t claim c size)
  read_off_ends size =
      read_off.read_off_ends Of17 T t claim c causes size (other DestinationLength refl)
      (λ r h i q n f. other (Constraint (record { 0 = i }) q n) refl)

  module _ (n : ℕ) (new : List ℕ) where
    edit_ends : AnswerEnds Of17 (edit_test T t claim c n new)
    edit_ends =
        edit.edit_ends Of17 T t claim c causes n new (other NoSuchTap refl)
        (λ i h. other (TapWord i) refl)
        (λ l a h i q m f. other (Constraint (record { 0 = i }) q m) refl)

    edit_call_ends : (size : ℕ) → AnswerEnds Of17 (edit_call_test T t claim c n new size)
    edit_call_ends size =
        edit.edit_call_ends Of17 T t claim c causes n new (other NoSuchTap refl)
        (λ i h. other (TapWord i) refl) size
        (other DestinationLength refl) (λ r l a h i q m f. other (Constraint (record { 0 = i }) q m) refl)

  -- ---- and that they do: it is what the opening tests answer, which are before all others
  module _ (x : OutOfRange T t c) where
    opening : opening_test T t c ≡ Err ClaimBatches
    opening = unclaimed T t c x.k x.table x.permitted x.size x.out

    check_refuses : check_test T t claim c ≡ Err ClaimBatches
    unfolding check_test
    check_refuses = rw opening

    read_off_refuses : (size : ℕ) → read_off_test T t claim c size ≡ Err ClaimBatches
    unfolding read_off_test
    read_off_refuses size = rw opening

    edit_refuses : (n : ℕ) (new : List ℕ) → edit_test T t claim c n new ≡ Err ClaimBatches
    unfolding edit_test
    edit_refuses n new = rw opening

    edit_call_refuses : (n : ℕ) (new : List ℕ) (size : ℕ)
        → edit_call_test T t claim c n new size ≡ Err ClaimBatches
    unfolding edit_call_test
    edit_call_refuses n new size = rw opening

-- ---- 17 by each operation
check_17 : (T t claim : List ℕ) (c : ℕ) → (check_answer T t claim c ≡ Err ClaimBatches) ↔ OutOfRange T t c
unfolding check_answer
check_17 T t claim c = (
  λ e. in_answer T t claim c (check_test T t claim c) (check_ends T t claim c) (value_refused _ _ ClaimBatches e),
  λ x. rw (check_refuses T t claim c x),
)

read_off_17 : (T t claim : List ℕ) (c size : ℕ)
    → (read_off_answer T t claim c size ≡ Err ClaimBatches) ↔ OutOfRange T t c
unfolding read_off_answer
read_off_17 T t claim c size = (
  λ e. in_answer T t claim c (read_off_test T t claim c size) (read_off_ends T t claim c size)
      (value_refused _ _ ClaimBatches e),
  λ x. rw (read_off_refuses T t claim c x size),
)

edit_17 : (T t claim : List ℕ) (c n : ℕ) (new : List ℕ)
    → (edit_answer T t claim c n new ≡ Err ClaimBatches) ↔ OutOfRange T t c
unfolding edit_answer
edit_17 T t claim c n new = (
  λ e. in_answer T t claim c (edit_test T t claim c n new) (edit_ends T t claim c n new)
      (value_refused _ _ ClaimBatches e),
  λ x. rw (edit_refuses T t claim c x n new),
)

-- ---- and by each call
check_call_17 : (T t claim : List ℕ) (c code : ℕ) → length claim ≡ 4 → code ≡ tests_code (check_answer T t claim c)
    → Says code (told ClaimBatches) ↔ OutOfRange T t c
unfolding check_answer
check_call_17 T t claim c code size e =
    let test = check_test T t claim c in
    let b = bits.check_bits T t claim c size in (
      in_word T t claim c test _ code e b (check_ends T t claim c),
      λ x. word_says test _ code ClaimBatches e b (check_refuses T t claim c x),
    )

read_off_call_17 : (T t claim taps taps' : List ℕ) (c code : ℕ) → length claim ≡ 4
    → ReadOffCall T t claim c code taps taps' → Says code (told ClaimBatches) ↔ OutOfRange T t c
unfolding read_off_answer
read_off_call_17 T t claim taps taps' c code size h =
    let test = read_off_test T t claim c (length taps) in
    let b = bits.read_off_bits T t claim c size (length taps) in (
      in_word T t claim c test _ code h.coded b (read_off_ends T t claim c (length taps)),
      λ x. word_says test _ code ClaimBatches h.coded b (read_off_refuses T t claim c x (length taps)),
    )

edit_call_17 : (T t claim : List ℕ) (c n : ℕ) (new t' output output' : List ℕ) (code : ℕ) → length claim ≡ 4
    → length new ≡ 4 → EditCall T t claim c n new code t' output output'
    → Says code (told ClaimBatches) ↔ OutOfRange T t c
unfolding edit_call
edit_call_17 T t claim c n new t' output output' code size size' h =
    let room = length output in
    let test = edit_call_test T t claim c n new room in
    let b = bits.edit_bits T t claim c size n new room size' in
    let coded = h.four.coded ∙ digest_none test _ in (
      in_word T t claim c test 0 code coded b (edit_call_ends T t claim c n new room),
      λ x. word_says test 0 code ClaimBatches coded b (edit_call_refuses T t claim c x n new room),
    )

-- ---- the claim along an accepted trace: the list that it stands for, and where its outputs are shown
module _ (T t claim : List ℕ) (c n : ℕ) (size : length claim ≡ 4) (e : check_answer T t claim c ≡ Ok n) where
  abbrev k : ℕ
  k = trace_word_batches (length t)

  abbrev w : List ℕ
  w = read_taps T t k

  inputs : CheckInputs T t claim c k × (constraint_test T t claim c k ≡ Ok tt)
  unfolding check_answer
  inputs = check_inputs T t claim c (value_accepted (check_test T t claim c) _ n (e)).0

  o : Opened T t c k
  o = inputs.0.opening

  list : IsListFor T t claim c k w
  list =
      reads_that_list T t claim c k o.table o.permitted o.low o.high o.size inputs.0.canonical size
      inputs.1

  -- row 31 of batch d − 1 begins with the output of the first 3d + 1 taps
  row_shows : (d : ℕ) → 1 ≤ d → d ≤ k → take 4 (row t (32 * (d - 1) + 31)) ≡ chain T (first_taps d w) d
  row_shows d low high =
      ap (λ s. take 4 (row s (32 * (d - 1) + 31))) (sym list.traced)
      ∙ shown T w k o.table o.permitted list.size list.canonical d low high
      ∙ sym (chain_first T w d)

  shows_claim : take 4 (row t (32 * (c - 1) + 31)) ≡ claim
  shows_claim = row_shows c o.low o.high ∙ list.chains

  moves : (d : ℕ) → 1 ≤ d → d ≤ k → check_answer T t (take 4 (row t (32 * (d - 1) + 31))) d ≡ Ok n
  moves d low high =
      let output = output_is_tap T w k list.size list.canonical d in
      let is = row_shows d low high ∙ chain_first T w d in
      let table = test_complete T o.table in
      let at_c = demand_3.exact T t claim c k table o.permitted o.low o.high o.size inputs.0.canonical
      size inputs.0.claim_canonical in
      let at-d = demand_3.exact T t (chain T w d) d k table o.permitted low high o.size inputs.0.canonical
      output.size output.canonical in
      let there : IsListFor T t (chain T w d) d k w = record {
        size = list.size;
        canonical = list.canonical;
        chains = chain_first T w d;
        traced = list.traced;
      } in
      ap (λ x. check_answer T t x d) is
      ∙ at-d.accepts_exactly.1 (w, there)
      ∙ ap Ok (sym (at_c.whole_order n e).0)

-- ---- another claim
other_claim : (T t claim other : List ℕ) (c j n : ℕ) → check_answer T t claim c ≡ Ok n → AllCanonical other
    → j < 4 → (cell other j ≡ cell claim j → ⊥) → ((m : ℕ) → m < j → cell other m ≡ cell claim m)
    → check_answer T t other c
    ≡ Err (Constraint (record { 0 = row31 (c - 1) }) (49 + j) (claim_place (trace_word_batches (length t)) c + j))
unfolding check_answer
other_claim T t claim other c j n e canonical word unlike like =
    let k = trace_word_batches (length t) in
    let i = check_inputs T t claim c (value_accepted (check_test T t claim c) _ n e).0 in
    let o = i.0.opening in
    let hold = accepted_all_hold T t claim k c i.1 in
    let f = other_claim_fails T t claim other k c j o.low o.high word hold unlike like in
    check_verdict T t other c k o.table o.permitted o.low o.high o.size i.0.canonical canonical
    ∙ ap (λ a. with_value a (length (tests k c))) (first_failing_refused T t other k c _ _ _ f)

-- ---- the request
pub request_6 : Request6
request_6 = record {
  listed = test_list;
  total = length_tests;
  rows_31 = row_31;
  claim_only = claim_only;
  other_rows = other_rows;
  claim_places = claim_places;
  check_17 = check_17;
  read_off_17 = read_off_17;
  edit_17 = edit_17;
  check_call_17 = check_call_17;
  read_off_call_17 = read_off_call_17;
  edit_call_17 = edit_call_17;
  shows_claim = shows_claim;
  other_claim = other_claim;
  moves = λ T t claim c d n size e. moves T t claim c n size e d;
}
