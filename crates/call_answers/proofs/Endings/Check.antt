-- Check: the table's refusals, 7, 17, 9, 10, 11.
-- Assumes nothing.
use mathlib.Core.List.{List}
use Prim.Native.Nat.{ℕ}
use lib.ListN.{length}
use Rattle.numbers.specs.Numbers.{trace_word_batches}
use Rattle.refusals.specs.declared.Refusal.{Refusal}
use Rattle.refusals.proofs.Laws.{AnswerEnds}
use Rattle.check_trace.specs.Answers.{check_test}
use Rattle.check_trace.proofs.Answers.{CheckInputs}
use Rattle.call_answers.proofs.Endings.Trace.{TraceCauses, Eleven, opened_ends, trace_ends}

pub check_ends : (Q : Refusal → Type 0) (T t claim : List ℕ) (c : ℕ) → TraceCauses Q T t claim c
    → (CheckInputs T t claim c (trace_word_batches (length t)) → Eleven Q T t claim c)
    → AnswerEnds Q (check_test T t claim c)
unfolding check_test
check_ends Q T t claim c causes q11 =
    opened_ends Q T t claim c causes _ λ o. trace_ends Q T t claim c causes o q11
