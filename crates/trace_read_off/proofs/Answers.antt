-- What the tests of Read-off say where they accept, that they are Check's where the destination has room, and what is
-- left in it.
-- Assumes nothing.
use mathlib.Core.Path.{◌≡◌, refl, sym, ◌∙◌}
use mathlib.Core.List.{List}
use Prim.Native.Nat.{ℕ, ◌+◌, ◌*◌}
use borrow.Author.Tests.{eq-eqb, eqb-true}
use lib.Dec.{eqb}
use lib.ListN.{length}
use Rattle.std.specs.Prelude.{Result, Ok, Err}
use Rattle.numbers.specs.Numbers.{trace_word_batches}
use Rattle.refusals.specs.declared.Refusal.{Refusal}
use Rattle.refusals.specs.declared.Refusal.TheVariants.{DestinationLength}
use Rattle.refusals.proofs.Laws.{passed, both_accepted, value_accepted, value_refused, value_turned_back}
use Rattle.refusals.proofs.Laws.{leaves_old, leaves_new}
use Rattle.check_constraints.specs.Constraints.{constraint_test}
use Rattle.check_constraints.specs.ReadOff.{read_taps}
use Rattle.check_trace.specs.Answers.{opening_test, check_test}
use Rattle.check_trace.proofs.Answers.{CheckInputs, check_inputs}
use Rattle.trace_read_off.specs.Answers.{read_off_test, read_off_answer, read_off_leaves}

module _ (T t claim : List ℕ) (c size : ℕ) where
  -- into a destination of the right length the tests are those of Check
  pub same_test : size ≡ 12 * trace_word_batches (length t) + 4
      → read_off_test T t claim c size ≡ check_test T t claim c
  unfolding read_off_test check_test
  same_test e = rw (eq-eqb size (12 * trace_word_batches (length t) + 4) e)

  pub read_off_inputs : read_off_test T t claim c size ≡ Ok tt → let k = trace_word_batches (length t) in
      (size ≡ 12 * k + 4) × CheckInputs T t claim c k × (constraint_test T t claim c k ≡ Ok tt)
  unfolding read_off_test
  read_off_inputs e =
      let a = both_accepted (opening_test T t c) _ e in
      let b = passed (eqb size (12 * trace_word_batches (length t) + 4)) DestinationLength _ a.1 in
      let s = eqb-true size (12 * trace_word_batches (length t) + 4) b.0 in
      let i = check_inputs T t claim c (sym (same_test s) ∙ e) in
      (s, i.0, i.1)

-- ---- what is answered and left in the destination where a test refuses
pub turned_back : (T t claim old : List ℕ) (c : ℕ) {r : Refusal}
    → Err r ≡ read_off_test T t claim c (length old)
    → (Err r ≡ read_off_answer T t claim c (length old)) × (old ≡ read_off_leaves T t claim c old)
unfolding read_off_answer read_off_leaves
turned_back T t claim old c e = (value_turned_back e _ refl, leaves_old e _ refl)

-- ---- what is left there, by the answer
module _ (T t claim old : List ℕ) (c : ℕ) {a : Result ℕ Refusal}
    (answered : a ≡ read_off_answer T t claim c (length old)) where
  pub accepted : {n : ℕ} → a ≡ Ok n → read_off_test T t claim c (length old) ≡ Ok tt
  unfolding read_off_answer
  accepted e = (value_accepted (read_off_test T t claim c (length old)) _ _ (sym answered ∙ e)).0

  pub kept : {r : Refusal} → a ≡ Err r → old ≡ read_off_leaves T t claim c old
  unfolding read_off_answer read_off_leaves
  kept e = leaves_old (sym (value_refused (read_off_test T t claim c (length old)) _ _ (sym answered ∙ e))) _ refl

  pub read : {n : ℕ} {new : List ℕ} → a ≡ Ok n → new ≡ read_taps T t (trace_word_batches (length t))
      → new ≡ read_off_leaves T t claim c old
  unfolding read_off_leaves
  read e q = leaves_new (sym (accepted e)) _ refl q
