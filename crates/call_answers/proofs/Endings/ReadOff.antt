-- Read-off: the table's refusals, 7, 17, 8, 9, 10, 11.
-- Assumes nothing.
use mathlib.Core.Path.{◌≡◌}
use mathlib.Core.List.{List}
use Prim.Native.Nat.{ℕ, ◌+◌, ◌*◌}
use borrow.Author.Tests.{eqb-true}
use lib.Dec.{eqb}
use lib.ListN.{length}
use Rattle.numbers.specs.Numbers.{trace_word_batches}
use Rattle.refusals.specs.declared.Refusal.{Refusal}
use Rattle.refusals.specs.declared.Refusal.TheVariants.{DestinationLength}
use Rattle.refusals.proofs.Laws.{AnswerEnds, unless_ends}
use Rattle.check_trace.proofs.Answers.{CheckInputs}
use Rattle.trace_read_off.specs.Answers.{read_off_test}
use Rattle.call_answers.proofs.Endings.Trace.{TraceCauses, Eleven, opened_ends, trace_ends}

pub read_off_ends : (Q : Refusal → Type 0) (T t claim : List ℕ) (c : ℕ) → TraceCauses Q T t claim c
    → (size : ℕ) → Q DestinationLength → let k = trace_word_batches (length t) in
    (size ≡ 12 * k + 4 → CheckInputs T t claim c k → Eleven Q T t claim c)
    → AnswerEnds Q (read_off_test T t claim c size)
unfolding read_off_test
read_off_ends Q T t claim c causes size q8 q11 =
    let n = 12 * trace_word_batches (length t) + 4 in
    opened_ends Q T t claim c causes _ λ o.
    unless_ends Q (eqb size n) DestinationLength _ (λ g. q8) λ g.
    trace_ends Q T t claim c causes o (q11 (eqb-true size n g))
