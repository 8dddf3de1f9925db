-- Request 4: the count in refusal 11 is the failing test's place. From what is known of the lent words where an order
-- of tests ends with 11 (crate `call_answers`, proofs/Endings), from the walk and the places of the tests (crate
-- `check_constraints`, proofs/WalkLaws.antt and TestPlace.antt), and that a word loses nothing of its answer.
-- Assumes nothing.
use mathlib.Core.Path.{◌≡◌, refl, sym, ap, ◌∙◌, subst, subst₃}
use mathlib.Core.Bool.{false}
use mathlib.Core.List.{List}
use mathlib.Core.Logic.{◌↔◌}
use Prim.Native.Nat.{ℕ, ◌*◌, ◌≤◌}
use native.Mathlib.Omega.{arith}
use borrow.Author.Tests.{eqb-false}
use lib.Dec.{eqb}
use lib.ListN.{length}
use Rattle.std.specs.Prelude.{Ok, Err}
use Rattle.field_words.specs.Words.{AllCanonical}
use Rattle.numbers.specs.Numbers.{tap_words, trace_word_batches}
use Rattle.numbers.specs.declared.RowNumber.{RowNumber}
use Rattle.refusals.specs.Refusals.{told, row_of, constraint_of, value_of}
use Rattle.refusals.specs.Answers.{Answer, with_value}
use Rattle.refusals.specs.declared.Refusal.{Refusal}
use Rattle.refusals.specs.declared.Refusal.TheVariants.{TableLength, TableWord, WrongInverse, TapWord, TraceLength}
use Rattle.refusals.specs.declared.Refusal.TheVariants.{DestinationLength, ClaimWord, TraceWord, NoSuchTap}
use Rattle.refusals.specs.declared.Refusal.TheVariants.{ClaimBatches}
use Rattle.refusals.proofs.Laws.{AnswerEnds, value_refused, value_turned_back}
use Rattle.table.proofs.Theorems.{test_sound, test_complete}
use Rattle.check_constraints.specs.Constraints.{tests}
use Rattle.check_constraints.specs.FirstFailing.{IsFirstFailing}
use Rattle.check_constraints.proofs.WalkLaws.{first_failing_refused}
use Rattle.check_constraints.proofs.TestPlace.{place_of_test}
use Rattle.check_trace.specs.Answers.{check_test, check_answer}
use Rattle.check_trace.proofs.Answers.{CheckInputs}
use Rattle.check_trace.proofs.Theorems.{check_verdict}
use Rattle.trace_read_off.specs.Answers.{read_off_test, read_off_answer}
use Rattle.trace_read_off.proofs.Theorems.{same_answer}
use Rattle.trace_edit.specs.Answers.{edit_test, edit_answer}
use Rattle.trace_edit.proofs.Answers.{same_test}
use Rattle.call_results.specs.Code.{code as code_of_lem, tests_code, number_in, constraint_in, row_in, value_in, Says}
use Rattle.call_answers.specs.Calls.{ReadOffCall, edit_call_test, edit_call, EditCall}
use Rattle.call_answers.proofs.Answers.{edit_room}
use Rattle.call_results.proofs.Bits.{RefusalInBits, says}
use Rattle.call_answers.proofs.Endings.Trace.{TraceCauses}
use Rattle.call_answers.proofs.Endings.Check.{check_ends}
use Rattle.call_answers.proofs.Endings.ReadOff.{read_off_ends}
use Rattle.call_answers.proofs.Endings.Edit.{edit_ends, edit_call_ends}
use Rattle.call_answers.proofs.Theorems as bits
use Rattle.demands.specs.Request4.{eleven, Reached, Counted, Request4}
use Rattle.demands.proofs.Demand1.Words.{digest_none}

-- ---- of a refusal only 11 matters here: what P says of its row, constraint and count
abbrev OfEleven : (ℕ → ℕ → ℕ → Type 0) → Refusal → Type 0
OfEleven P r = (told r).number ≡ 11 → P (row_of (told r).place) (constraint_of (told r).place) (value_of (told r).place)

module _ (P : ℕ → ℕ → ℕ → Type 0) where
  other : (r : Refusal) → eqb (told r).number 11 ≡ false → OfEleven P r
  other r h e = absurd (eqb-false (told r).number 11 h e)

  causes : (T t claim : List ℕ) (c : ℕ) → TraceCauses (OfEleven P) T t claim c
  causes T t claim c = record {
    of_table = record {
      by_length = other TableLength refl;
      by_word = λ i h. other (TableWord i) refl;
      by_cell = λ i h. other (WrongInverse i) refl;
    };
    by_length = λ z. other TraceLength refl;
    by_batches = λ l e p s o. other ClaimBatches refl;
    by_claim = λ i h. other (ClaimWord i) refl;
    by_word = λ l s p i h. other (TraceWord i) refl;
  }

  -- in an answer, and in the word that tells it
  in_answer : (a : Answer) (i q n : ℕ) → AnswerEnds (OfEleven P) a → a ≡ Err (eleven i q n) → P i q n
  in_answer a i q n h e = subst (AnswerEnds (OfEleven P)) e h refl

  in_word : (a : Answer) (m code i q n : ℕ) → code ≡ tests_code (with_value a m) → AnswerEnds RefusalInBits a
      → AnswerEnds (OfEleven P) a → Says code (told (eleven i q n)) → P i q n
  unfolding tests_code code_of_lem
  in_word (Ok _) m code i q n e b h s = absurd (omega (arith, s.number))
  in_word (Err r) m code i q n e b h s =
      let u = says (told r) b in
      subst₃ P (sym u.row ∙ ap row_in (sym e) ∙ s.row)
      (sym u.constraint ∙ ap constraint_in (sym e) ∙ s.constraint)
      (sym u.value ∙ ap value_in (sym e) ∙ s.value)
      (h (sym u.number ∙ ap number_in (sym e) ∙ s.number))

-- what a word says of a refusal
pub word_says : (a : Answer) (m code : ℕ) (r : Refusal) → code ≡ tests_code (with_value a m) → AnswerEnds RefusalInBits a
    → a ≡ Err r → Says code (told r)
unfolding tests_code
word_says a m code r e b q =
    subst (λ x. Says x (told r)) (sym (e ∙ ap (λ x. tests_code (with_value x m)) q))
    (says (told r) (subst (AnswerEnds RefusalInBits) q b))

-- ---- what has been passed where the tests end with 11, for one table, trace, claim and c
module _ (T t claim : List ℕ) (c : ℕ) where
  reached : (k : ℕ) → CheckInputs T t claim c k → Reached T t claim c k
  reached k h =
      let o = h.opening in
      record {
        table = test_complete T o.table;
        permitted = o.permitted;
        low = o.low;
        high = o.high;
        size = o.size;
        canonical = h.canonical;
        claim_canonical = h.claim_canonical;
      }

  -- Check answers so
  answered : (k i q n : ℕ) → Reached T t claim c k × IsFirstFailing T t claim (tests k c) i q n
      → check_answer T t claim c ≡ Err (eleven i q n)
  answered k i q n (h, f) =
      check_verdict T t claim c k (test_sound T h.table) h.permitted h.low h.high h.size h.canonical
      h.claim_canonical
      ∙ ap (λ a. with_value a (length (tests k c))) (first_failing_refused T t claim k c i q n f)

  abbrev k : ℕ
  k = trace_word_batches (length t)

  abbrev Passed : ℕ → ℕ → ℕ → Type 0
  Passed i q n = Reached T t claim c k × IsFirstFailing T t claim (tests k c) i q n

  check_passed : AnswerEnds (OfEleven Passed) (check_test T t claim c)
  check_passed =
      check_ends (OfEleven Passed) T t claim c (causes Passed T t claim c) (λ h i q n f e. (reached k h, f))

  abbrev ReadOffPassed : ℕ → ℕ → ℕ → ℕ → Type 0
  ReadOffPassed size i q n = (size ≡ tap_words k) × Passed i q n

  read_off_passed : (size : ℕ) → AnswerEnds (OfEleven (ReadOffPassed size)) (read_off_test T t claim c size)
  read_off_passed size =
      let P = ReadOffPassed size in
      read_off_ends (OfEleven P) T t claim c (causes P T t claim c) size (other P DestinationLength refl)
      (λ s h i q n f e. (s, (reached k h, f)))

  module _ (m : ℕ) (new : List ℕ) where
    abbrev EditPassed : ℕ → ℕ → ℕ → Type 0
    EditPassed i q n = (m ≤ 3 * k) × AllCanonical new × Passed i q n

    edit_passed : AnswerEnds (OfEleven EditPassed) (edit_test T t claim c m new)
    edit_passed =
        let P = EditPassed in
        edit_ends (OfEleven P) T t claim c (causes P T t claim c) m new (other P NoSuchTap refl)
        (λ i h. other P (TapWord i) refl) (λ l a h i q n f e. (l, a, (reached k h, f)))

    edit_call_passed : (size : ℕ)
        → AnswerEnds (OfEleven (λ i q n. (size ≡ 4) × EditPassed i q n)) (edit_call_test T t claim c m new size)
    edit_call_passed size =
        let P : ℕ → ℕ → ℕ → Type 0 = λ i q n. (size ≡ 4) × EditPassed i q n in
        edit_call_ends (OfEleven P) T t claim c (causes P T t claim c) m new (other P NoSuchTap refl)
        (λ i h. other P (TapWord i) refl) size (other P DestinationLength refl)
        (λ z l a h i q n f e. (z, (l, a, (reached k h, f))))

-- ---- the operations
counted : (T t claim : List ℕ) (c k i q n : ℕ) → IsFirstFailing T t claim (tests k c) i q n
    → Counted T t claim c k i q n
counted T t claim c k i q n f =
    record { first_failing = f; place_is = f.place ∙ place_of_test k c i q f.before f.after f.order }

check_counts : (T t claim : List ℕ) (c i q n : ℕ)
    → (check_answer T t claim c ≡ Err (eleven i q n))
    ↔ ((k : ℕ) × Reached T t claim c k × Counted T t claim c k i q n)
unfolding check_answer
check_counts T t claim c i q n = (
  λ e.
      let k = trace_word_batches (length t) in
      let test = value_refused (check_test T t claim c) _ (eleven i q n) e in
      let p = in_answer (Passed T t claim c) (check_test T t claim c) i q n (check_passed T t claim c) test in
      (k, p.0, counted T t claim c k i q n p.1),
  λ s. answered T t claim c s.0 i q n (s.1, s.2.first_failing),
)

read_off_alike : (T t claim : List ℕ) (c size i q n : ℕ)
    → (read_off_answer T t claim c size ≡ Err (eleven i q n))
    ↔ ((check_answer T t claim c ≡ Err (eleven i q n)) × (size ≡ tap_words (trace_word_batches (length t))))
unfolding read_off_answer
read_off_alike T t claim c size i q n = (
  λ e.
      let test = read_off_test T t claim c size in
      let p = in_answer (ReadOffPassed T t claim c size) test i q n (read_off_passed T t claim c size)
      (value_refused test _ (eleven i q n) e) in
      (answered T t claim c _ i q n p.1, p.0),
  λ s. ap (read_off_answer T t claim c) s.1 ∙ same_answer T t claim c ∙ s.0,
)

edit_alike : (T t claim : List ℕ) (c m : ℕ) (new : List ℕ) (i q n : ℕ)
    → (edit_answer T t claim c m new ≡ Err (eleven i q n))
    ↔ ((check_answer T t claim c ≡ Err (eleven i q n)) × (m ≤ 3 * trace_word_batches (length t)) × AllCanonical new)
unfolding edit_answer check_answer
edit_alike T t claim c m new i q n = (
  λ e.
      let test = edit_test T t claim c m new in
      let p = in_answer (EditPassed T t claim c m new) test i q n (edit_passed T t claim c m new)
      (value_refused test _ (eleven i q n) e) in
      (answered T t claim c _ i q n p.2, p.0, p.1),
  λ s.
      let refused = value_refused (check_test T t claim c) _ (eleven i q n) s.0 in
      sym (value_turned_back refl _ (same_test T t claim c m new s.1 s.2 ∙ refused)),
)

-- ---- the calls
check_called : (T t claim : List ℕ) (c code i q n : ℕ) → length claim ≡ 4 → code ≡ tests_code (check_answer T t claim c)
    → Says code (told (eleven i q n)) ↔ (check_answer T t claim c ≡ Err (eleven i q n))
unfolding check_answer
check_called T t claim c code i q n size e =
    let test = check_test T t claim c in
    let b = bits.check_bits T t claim c size in (
      λ s. answered T t claim c _ i q n
          (in_word (Passed T t claim c) test _ code i q n e b (check_passed T t claim c) s),
      λ h. word_says test _ code (eleven i q n) e b (value_refused test _ (eleven i q n) h),
    )

read_off_called : (T t claim taps taps' : List ℕ) (c code i q n : ℕ) → length claim ≡ 4
    → ReadOffCall T t claim c code taps taps'
    → Says code (told (eleven i q n)) ↔ (read_off_answer T t claim c (length taps) ≡ Err (eleven i q n))
unfolding read_off_answer
read_off_called T t claim taps taps' c code i q n size h =
    let room = length taps in
    let test = read_off_test T t claim c room in
    let b = bits.read_off_bits T t claim c size room in (
      λ s.
          let p = in_word (ReadOffPassed T t claim c room) test _ code i q n h.coded b
          (read_off_passed T t claim c room) s in
          (read_off_alike T t claim c room i q n).1 (answered T t claim c _ i q n p.1, p.0),
      λ e. word_says test _ code (eleven i q n) h.coded b (value_refused test _ (eleven i q n) e),
    )

edit_called : (T t claim : List ℕ) (c m : ℕ) (new t' output output' : List ℕ) (code i q n : ℕ) → length claim ≡ 4
    → length new ≡ 4 → EditCall T t claim c m new code t' output output'
    → Says code (told (eleven i q n))
    ↔ ((edit_answer T t claim c m new ≡ Err (eleven i q n)) × (length output ≡ 4))
unfolding edit_answer edit_call
edit_called T t claim c m new t' output output' code i q n size size' h =
    let room = length output in
    let test = edit_call_test T t claim c m new room in
    let b = bits.edit_bits T t claim c size m new room size' in
    let coded = h.four.coded ∙ digest_none test _ in (
      λ s.
          let p = in_word (λ j p l. (room ≡ 4) × EditPassed T t claim c m new j p l) test 0 code i q n coded b
          (edit_call_passed T t claim c m new room) s in
          let l = p.1 in
          ((edit_alike T t claim c m new i q n).1 (answered T t claim c _ i q n l.2, l.0, l.1), p.0),
      λ s.
          let refused = value_refused (edit_test T t claim c m new) _ (eleven i q n) s.0 in
          word_says test 0 code (eleven i q n) coded b (sym (edit_room T t claim c m new room s.1) ∙ refused),
    )

-- ---- one count
one_count : (T t claim : List ℕ) (c k i q n l j r m : ℕ) → Reached T t claim c k → Counted T t claim c k i q n
    → Reached T t claim c l → Counted T t claim c l j r m → (i ≡ j) × (q ≡ r) × (n ≡ m)
one_count T t claim c k i q n l j r m a b u v =
    let e = sym (answered T t claim c k i q n (a, b.first_failing))
    ∙ answered T t claim c l j r m (u, v.first_failing) in
    let row : ◌≡◌ {A = RowNumber} (record { 0 = i }) (record { 0 = j }) = cc in
    (ap (λ x. x.0) row, cc, cc)

-- ---- the request
pub request_4 : Request4
request_4 = record {
  check_counts = check_counts;
  read_off_alike = read_off_alike;
  edit_alike = edit_alike;
  check_called = check_called;
  read_off_called = read_off_called;
  edit_called = edit_called;
  one_count = one_count;
}
