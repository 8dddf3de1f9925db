-- Demand 1 of Check.
-- Assumes nothing.
use mathlib.Core.Path.{◌≡◌, refl, subst}
use mathlib.Core.List.{List, [], ◌∷◌}
use Prim.Native.Nat.{ℕ}
use lib.ListN.{length}
use Rattle.std.specs.Prelude.{Ok, Err}
use Rattle.numbers.specs.Numbers.{trace_word_batches}
use Rattle.refusals.specs.declared.Refusal.{Refusal}
use Rattle.refusals.proofs.Laws.{value_refused, AnswerEnds}
use Rattle.check_constraints.specs.Constraints as order
use Rattle.check_constraints.specs.ReadOff.{read_taps}
use Rattle.check_constraints.proofs.TestCount.{length_tests}
use Rattle.check_trace.specs.Answers.{check_answer, check_test}
use Rattle.check_trace.proofs.Answers.{CheckInputs, check_inputs}
use Rattle.call_results.specs.Code.{tests_code}
use Rattle.check_exact.specs.Exact.{IsListFor}
use Rattle.check_exact.proofs.Exactness.{reads_that_list}
use Rattle.call_answers.proofs.Theorems as bits
use Rattle.demands.specs.Demand1.{check, numbers, call_numbers, OneOf, Answered, CheckResult}
use Rattle.demands.proofs.Demand1.Numbers.{one_of, table_causes_lem, trace_causes}
use Rattle.demands.proofs.Demand1.Words.{tests_says}
use Rattle.call_answers.proofs.Endings.Check.{check_ends}

check_numbers : (T t claim : List ℕ) (c : ℕ) → AnswerEnds (OneOf (numbers check)) (check_test T t claim c)
check_numbers T t claim c =
    let ns = numbers check in
    check_ends (OneOf ns) T t claim c
    (trace_causes ns T t claim c (table_causes_lem ns refl refl refl) refl refl refl refl)
    (λ h i q n f. one_of 11 ns refl)

pub check_numbered : (T t claim : List ℕ) (c : ℕ) (r : Refusal) → check_answer T t claim c ≡ Err r
    → OneOf (numbers check) r
unfolding check_answer
check_numbered T t claim c r e =
    subst (AnswerEnds (OneOf (numbers check))) (value_refused (check_test T t claim c) _ r e) (check_numbers T t claim c)

-- what an accepted trace stands for
pub list_for : (T t claim : List ℕ) (c : ℕ) → length claim ≡ 4 → let k = trace_word_batches (length t) in
    CheckInputs T t claim c k → order.constraint_test T t claim c k ≡ Ok tt
    → IsListFor T t claim c k (read_taps T t k)
list_for T t claim c four i e =
    let o = i.opening in
    reads_that_list T t claim c (trace_word_batches (length t)) o.table o.permitted o.low o.high o.size
    i.canonical four e

pub check_called : (T t : List ℕ) (c0 c1 c2 c3 c code : ℕ) → code ≡ tests_code (check_answer T t (c0 ∷ c1 ∷ c2 ∷ c3 ∷ []) c)
    → Answered code (call_numbers check) (λ a. check_test T t (c0 ∷ c1 ∷ c2 ∷ c3 ∷ []) c ≡ a)
    (CheckResult T t (c0 ∷ c1 ∷ c2 ∷ c3 ∷ []) c) Unit
unfolding check_answer
check_called T t c0 c1 c2 c3 c code h =
    let claim : List ℕ = c0 ∷ c1 ∷ c2 ∷ c3 ∷ [] in
    let k = trace_word_batches (length t) in
    tests_says code (call_numbers check) (λ a. check_test T t claim c ≡ a) (CheckResult T t claim c) Unit
    (check_test T t claim c) refl (length (order.tests k c)) h
    (λ e. (let o = (check_inputs T t claim c e).0.opening in bits.tests_bits k c o.permitted o.low o.high))
    (bits.check_bits T t claim c refl)
    (check_numbers T t claim c)
    (λ e. (let i = check_inputs T t claim c e in let o = i.0.opening in record {
      k = k;
      permitted = o.permitted;
      rows = o.size;
      claimed = (o.low, o.high);
      all = length_tests k c o.low o.high;
      stands_for = (read_taps T t k, list_for T t claim c refl i.0 i.1);
    }))
    (λ r. tt)
