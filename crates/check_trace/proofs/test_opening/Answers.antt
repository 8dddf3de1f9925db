-- `check_trace::test_opening`: each return is the case of the definition that the tests before it left.
-- Assumes nothing.
use mathlib.Core.Path.{◌≡◌, refl, sym, ◌∙◌}
use mathlib.Core.Bool.{true}
use mathlib.Core.List.{List}
use Prim.Native.Nat.{ℕ, ◌≤◌, ◌<◌}
use native.Mathlib.Omega.{arith}
use lib.ListN.{length}
use Rattle.std.specs.Prelude.{Ok, Some, None}
use Rattle.std.proofs.lemmas.Result.{err_from_is_err_and}
use Rattle.numbers.specs.Numbers.{most_batches, is_trace_length, trace_word_batches}
use Rattle.numbers.proofs.Laws.{trace_permitted, trace_refused}
use Rattle.refusals.specs.declared.Refusal.TheVariants.{ClaimBatches}
use Rattle.refusals.specs.Answers.{Answer, unless}
use Rattle.refusals.proofs.Laws.{unless_refused, unless_passed, after_refused, after_accepted}
use Rattle.table.specs.Table.{table_test}
use Rattle.check_constraints.specs.Constraints.{between}
use Rattle.check_constraints.proofs.Families.{in_range, under, over}
use Rattle.check_trace.specs.Answers.{opening_test}
use Rattle.check_trace.proofs.test_opening.Goals as goal

pub returns-in_err-test_and_ready : goal.returns-in_err-test_and_ready
unfolding opening_test
returns-in_err-test_and_ready c =
    let p = err_from_is_err_and c.from_residual.result c.from_residual.ensures.1 in
    let tested = sym c.in_err-test_and_ready.was ∙ c.test_and_ready.ensures.0 in
    (rw (p.1, p.2) (after_refused _ tested refl), c.test_and_ready.ensures.1)

pub returns-in_err-k : goal.returns-in_err-k
unfolding opening_test
returns-in_err-k c =
    let none : c.trace_batches.result ≡ None = grind arith in
    let refused = trace_refused most_batches (length c.args.trace.now) c.trace_batches.ensures none in
    let p = err_from_is_err_and c.from_residual-in_err-k.result c.from_residual-in_err-k.ensures.1 in
    let answered = unless_refused _ refused (rw (p.1, p.2) (grind arith)) in (
      after_accepted c.test_and_ready.ensures.0 c.in_ok-test_and_ready.was answered,
      c.test_and_ready.ensures.1,
    )

-- a is what the table test answered, and the trace's length is permitted: what is left is the claim's number
sized : (T t : List ℕ) (n : ℕ) {a o : Answer} → a ≡ table_test T → a ≡ Ok tt
    → is_trace_length most_batches (length t) ≡ true
    → o ≡ unless (between 1 (trace_word_batches (length t)) n) ClaimBatches (Ok tt) → o ≡ opening_test T t n
unfolding opening_test
sized T t n e q s p = after_accepted e q (unless_passed _ s p)

pub returns-then-c-lt1 : goal.returns-then-c-lt1
returns-then-c-lt1 c =
    let words = length c.args.trace.now in
    let some : c.trace_batches.result ≡ Some c.in_ok-k.k = grind arith in
    let known = trace_permitted most_batches words c.trace_batches.ensures some in (
      sized _ c.args.trace.now c.args.c c.test_and_ready.ensures.0 c.in_ok-test_and_ready.was known.0
          (unless_refused _ (under 1 _ _ c.if-c-lt1.true) refl),
      c.test_and_ready.ensures.1,
    )

pub returns-then-k-c : goal.returns-then-k-c
returns-then-k-c c =
    let words = length c.args.trace.now in
    let some : c.trace_batches.result ≡ Some c.in_ok-k.k = grind arith in
    let known = trace_permitted most_batches words c.trace_batches.ensures some in
    let above : trace_word_batches words < c.args.c = omega (arith, known.1, c.if-k-c.true) in (
      sized _ c.args.trace.now c.args.c c.test_and_ready.ensures.0 c.in_ok-test_and_ready.was known.0
          (unless_refused _ (over 1 _ _ above) refl),
      c.test_and_ready.ensures.1,
    )

pub returns : goal.returns
returns c =
    let words = length c.args.trace.now in
    let some : c.trace_batches.result ≡ Some c.in_ok-k.k = grind arith in
    let known = trace_permitted most_batches words c.trace_batches.ensures some in
    let low : 1 ≤ c.args.c = c.if-c-lt1.false in
    let high : c.args.c ≤ trace_word_batches words = omega (arith, known.1, c.if-k-c.false) in (
      sized _ c.args.trace.now c.args.c c.test_and_ready.ensures.0 c.in_ok-test_and_ready.was known.0
          (unless_passed _ (in_range 1 _ _ low high) refl),
      c.test_and_ready.ensures.1,
    )
