-- Demand 1 of Read-off.
-- Assumes nothing.
use mathlib.Core.Path.{◌≡◌, refl, sym, ap, subst, ◌∙◌}
use mathlib.Core.List.{List, [], ◌∷◌}
use Prim.Native.Nat.{ℕ}
use lib.ListN.{length}
use Rattle.std.specs.Prelude.{Err}
use Rattle.numbers.specs.Numbers.{trace_word_batches}
use Rattle.refusals.specs.Answers.{leaves}
use Rattle.refusals.specs.declared.Refusal.{Refusal}
use Rattle.refusals.proofs.Laws.{value_refused, AnswerEnds}
use Rattle.check_constraints.specs.Constraints as order
use Rattle.check_constraints.specs.ReadOff.{read_taps}
use Rattle.check_constraints.proofs.TestCount.{length_tests}
use Rattle.trace_read_off.specs.Answers.{read_off_answer, read_off_leaves, read_off_test}
use Rattle.trace_read_off.proofs.Answers.{read_off_inputs}
use Rattle.call_answers.specs.Calls.{ReadOffCall}
use Rattle.check_exact.specs.Exact.{IsListFor}
use Rattle.call_answers.proofs.Theorems as bits
use Rattle.demands.specs.Demand1.{read_off, numbers, call_numbers, OneOf, Answered, ReadOffResult}
use Rattle.demands.proofs.Demand1.Numbers.{one_of, table_causes_lem, trace_causes}
use Rattle.demands.proofs.Demand1.Words.{tests_says, kept_old}
use Rattle.demands.proofs.Demand1.Check.{list_for}
use Rattle.call_answers.proofs.Endings.ReadOff.{read_off_ends}

read_off_numbers : (T t claim : List ℕ) (c size : ℕ)
    → AnswerEnds (OneOf (numbers read_off)) (read_off_test T t claim c size)
read_off_numbers T t claim c size =
    let ns = numbers read_off in
    read_off_ends (OneOf ns) T t claim c
    (trace_causes ns T t claim c (table_causes_lem ns refl refl refl) refl refl refl refl) size (one_of 8 ns refl)
    (λ s h i q n f. one_of 11 ns refl)

pub read_off_numbered : (T t claim : List ℕ) (c size : ℕ) (r : Refusal)
    → read_off_answer T t claim c size ≡ Err r → OneOf (numbers read_off) r
unfolding read_off_answer
read_off_numbered T t claim c size r e =
    subst (AnswerEnds (OneOf (numbers read_off))) (value_refused (read_off_test T t claim c size) _ r e)
    (read_off_numbers T t claim c size)

pub read_off_keeps : (T t claim old : List ℕ) (c : ℕ) (r : Refusal)
    → read_off_answer T t claim c (length old) ≡ Err r → read_off_leaves T t claim c old ≡ old
unfolding read_off_answer read_off_leaves
read_off_keeps T t claim old c r e =
    kept_old _ r (value_refused (read_off_test T t claim c (length old)) _ r e) _ old

pub read_off_called : (T t taps taps' : List ℕ) (c0 c1 c2 c3 c code : ℕ)
    → ReadOffCall T t (c0 ∷ c1 ∷ c2 ∷ c3 ∷ []) c code taps taps'
    → Answered code (call_numbers read_off) (λ a. read_off_test T t (c0 ∷ c1 ∷ c2 ∷ c3 ∷ []) c (length taps) ≡ a)
    (ReadOffResult T t (c0 ∷ c1 ∷ c2 ∷ c3 ∷ []) c taps') (taps' ≡ taps)
unfolding read_off_answer read_off_leaves
read_off_called T t taps taps' c0 c1 c2 c3 c code h =
    let claim : List ℕ = c0 ∷ c1 ∷ c2 ∷ c3 ∷ [] in
    let k = trace_word_batches (length t) in
    tests_says code (call_numbers read_off) (λ a. read_off_test T t claim c (length taps) ≡ a)
    (ReadOffResult T t claim c taps') (taps' ≡ taps)
    (read_off_test T t claim c (length taps)) refl (length (order.tests k c)) h.coded
    (λ e. (let o = (read_off_inputs T t claim c (length taps) e).1.opening in
    bits.tests_bits k c o.permitted o.low o.high))
    (bits.read_off_bits T t claim c refl (length taps))
    (read_off_numbers T t claim c (length taps))
    (λ e. (let i = read_off_inputs T t claim c (length taps) e in let o = i.1.opening in
    let left = h.list ∙ ap (λ x. leaves x (read_taps T t k) taps) e in record {
      k = k;
      permitted = o.permitted;
      rows = o.size;
      claimed = (o.low, o.high);
      all = length_tests k c o.low o.high;
      taps_are = left;
      stands_for = subst (IsListFor T t claim c k) (sym left) (list_for T t claim c refl i.1 i.2);
    }))
    (λ r. h.list ∙ ap (λ x. leaves x (read_taps T t k) taps) r.1)
