-- Edit: the table's refusals, 7, 17, 15, 9, 10, 6, 11; from another language 8 after 15. n is the number of the tap,
-- new the new one.
-- Assumes nothing.
use mathlib.Core.Path.{◌≡◌}
use mathlib.Core.List.{List}
use Prim.Native.Nat.{ℕ, ◌*◌, ◌<◌, ◌≤◌}
use borrow.Author.Tests.{eqb-true, leb-true}
use lib.Dec.{eqb, leb}
use lib.ListN.{length}
use Rattle.field_words.specs.Words.{AllCanonical, first_bad, canonical_words}
use Rattle.numbers.specs.Numbers.{trace_word_batches}
use Rattle.refusals.specs.declared.Refusal.{Refusal}
use Rattle.refusals.specs.declared.Refusal.TheVariants.{TapWord, DestinationLength, ClaimWord, TraceWord, NoSuchTap}
use Rattle.refusals.specs.Answers.{unless}
use Rattle.refusals.proofs.Laws.{AnswerEnds, unless_ends}
use Rattle.check_constraints.specs.Constraints.{constraint_test}
use Rattle.check_trace.proofs.Answers.{Opened, CheckInputs}
use Rattle.trace_edit.specs.Answers.{edit_test}
use Rattle.call_answers.specs.Calls.{edit_call_test}
use Rattle.call_answers.proofs.Endings.Trace.{TraceCauses, Eleven, constraints_end, opened_ends, judged_end}
use Rattle.call_answers.proofs.Endings.Taps.{words_end}

module _ (Q : Refusal → Type 0) (T t claim : List ℕ) (c : ℕ) (causes : TraceCauses Q T t claim c) (n : ℕ)
    (new : List ℕ) (q15 : Q NoSuchTap) (q6 : (i : ℕ) → i < length new → Q (TapWord i)) where
  abbrev k : ℕ
  k = trace_word_batches (length t)

  edited_end : Opened T t c k → (AllCanonical new → CheckInputs T t claim c k → Eleven Q T t claim c)
      → AnswerEnds Q (unless (canonical_words claim) (ClaimWord (first_bad claim))
      (unless (canonical_words t) (TraceWord (first_bad t))
      (unless (canonical_words new) (TapWord (first_bad new))
      (constraint_test T t claim c k))))
  edited_end o q11 =
      judged_end Q T t claim c causes o _ λ i.
      words_end Q new q6 _ λ a. constraints_end Q T t claim c causes (q11 a i)

  pub edit_ends : (n ≤ 3 * k → AllCanonical new → CheckInputs T t claim c k → Eleven Q T t claim c)
      → AnswerEnds Q (edit_test T t claim c n new)
  unfolding edit_test
  edit_ends q11 =
      opened_ends Q T t claim c causes _ λ o.
      unless_ends Q (leb n (3 * k)) NoSuchTap _ (λ g. q15) λ g. edited_end o (q11 (leb-true n (3 * k) g))

  pub edit_call_ends : (size : ℕ) → Q DestinationLength
      → (size ≡ 4 → n ≤ 3 * k → AllCanonical new → CheckInputs T t claim c k → Eleven Q T t claim c)
      → AnswerEnds Q (edit_call_test T t claim c n new size)
  unfolding edit_call_test
  edit_call_ends size q8 q11 =
      opened_ends Q T t claim c causes _ λ o.
      unless_ends Q (leb n (3 * k)) NoSuchTap _ (λ g. q15) λ g.
      unless_ends Q (eqb size 4) DestinationLength _ (λ h. q8) λ h.
      edited_end o (q11 (eqb-true size 4 h) (leb-true n (3 * k) g))
