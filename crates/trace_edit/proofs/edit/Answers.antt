-- `trace_edit::edit`: nothing is written before every test has passed; then the trace is rewritten, and the claim's row
-- begins with the output of the altered list's first 3c + 1 taps.
-- Assumes nothing.
use mathlib.Core.Path.{◌≡◌, refl, sym, ◌∙◌}
use mathlib.Core.List.{List}
use Prim.Native.Nat.{ℕ, ◌≤◌}
use native.Mathlib.Omega.{arith}
use lib.ListN.{length}
use Rattle.std.proofs.lemmas.Result.{err_from_is_err_and}
use Rattle.numbers.specs.Numbers.{trace_word_batches}
use Rattle.refusals.specs.Answers.{Answer, with_value}
use Rattle.refusals.proofs.Laws.{after_refused, after_accepted, value_accepted, value_refused}
use Rattle.refusals.proofs.Laws.{value_turned_back, value_returned, leaves_old, leaves_new}
use Rattle.table.proofs.Theorems.{ready_left_lem}
use Rattle.check_constraints.specs.Constraints.{tests}
use Rattle.check_trace.specs.Answers.{opening_test}
use Rattle.check_trace.proofs.Answers.{opened_by, walked}
use Rattle.trace_rewrite.specs.EditHelpers.{Rewritable}
use Rattle.trace_rewrite.proofs.Rewriting.{has_claim_row, output_shown}
use Rattle.trace_edit.specs.Answers.{edit_test, edit_trace_test, altered_taps, edit_answer, edit_leaves}
use Rattle.trace_edit.proofs.Answers.{edit_inputs, rewritable}
use borrow.Author.Rules.{rules}
use Rattle.trace_edit.proofs.edit.Goals as goal
use Rattle.std.specs.Prelude.{Result, Ok}
use Rattle.refusals.specs.declared.Refusal.{Refusal}

-- the opening tests are passed: what the last tests answer is the answer of all
answered : (T t claim : List ℕ) (b n : ℕ) (new : List ℕ) {a : Answer} {o : Result ℕ Refusal}
    → let k = trace_word_batches (length t) in
    a ≡ opening_test T t b → a ≡ Ok tt → o ≡ with_value (edit_trace_test T t claim b n new k) (length (tests k b))
    → o ≡ with_value (edit_test T t claim b n new) (length (tests k b))
unfolding edit_test
answered T t claim b n new e q p = walked _ _ p (after_accepted e q refl)

-- every test is passed: what is known then
record Passed (T t claim : List ℕ) (b n : ℕ) (new : List ℕ) : Type 0 where
  passes : edit_test T t claim b n new ≡ Ok tt
  rewrites : Rewritable T t (trace_word_batches (length t)) n new
  low : 1 ≤ b
  high : b ≤ trace_word_batches (length t)

passed : (T t claim : List ℕ) (b n : ℕ) (new : List ℕ) {a : Answer} {o : Result ℕ Refusal} {m : ℕ}
    → let k = trace_word_batches (length t) in
    length claim ≡ 4 → a ≡ opening_test T t b → a ≡ Ok tt
    → o ≡ with_value (edit_trace_test T t claim b n new k) (length (tests k b)) → o ≡ Ok m
    → Passed T t claim b n new
passed T t claim b n new four e q p r =
    let all = (value_accepted (edit_test T t claim b n new) _ _ (sym (answered T t claim b n new e q p) ∙ r)).0 in
    let o = (edit_inputs T t claim b n new all).0.opening in
    record { passes = all; rewrites = rewritable T t claim b n new four all; low = o.low; high = o.high }

pub returns-in_err-test_opening : goal.returns-in_err-test_opening
unfolding edit_test edit_answer edit_leaves
returns-in_err-test_opening c =
    let p = err_from_is_err_and c.from_residual.result c.from_residual.ensures.1 in
    let closed = after_refused _ (sym c.in_err-test_opening.was ∙ c.test_opening.ensures.0) refl in
    rw (p.1, p.2) (value_turned_back closed _ refl, leaves_old closed _ refl)

pub make_inverse_ready-requires : goal.make_inverse_ready-requires
make_inverse_ready-requires c = ((opened_by _ _ _ c.test_opening.ensures.0 c.in_ok-test_opening.was).0.table, refl)

pub invariant_of-ready : goal.invariant_of-ready
invariant_of-ready c =
    let s = opened_by _ _ _ c.test_opening.ensures.0 c.in_ok-test_opening.was in
    record { accepted = s.0.table; made = ready_left_lem _ _ s.0.table c.test_opening.ensures.1 }

pub test_edit-requires : goal.test_edit-requires
test_edit-requires c =
    let s = opened_by _ _ _ c.test_opening.ensures.0 c.in_ok-test_opening.was in
    (s.0.size, s.0.high, s.1)

pub returns-in_err-test_edit : goal.returns-in_err-test_edit
unfolding edit_answer edit_leaves
returns-in_err-test_edit c =
    let a = c.args in
    let p = err_from_is_err_and c.from_residual-in_err-test_edit.result c.from_residual-in_err-test_edit.ensures.1 in
    -- one of the last tests refuses
    let refuses = value_refused _ _ _
    (sym (answered a.table.now a.trace.now a.claim a.c a.tap.0 a.words c.test_opening.ensures.0
    c.in_ok-test_opening.was c.test_edit.ensures) ∙ c.in_err-test_edit.was) in
    rw (p.1, p.2) (value_turned_back (sym refuses) _ refl, leaves_old (sym refuses) _ refl)

pub rewrite-requires : goal.rewrite-requires
rewrite-requires c =
    let a = c.args in
    (passed a.table.now a.trace.now a.claim a.c a.tap.0 a.words (search rules) c.test_opening.ensures.0
    c.in_ok-test_opening.was c.test_edit.ensures c.in_ok-test_edit.was).rewrites

pub overflow_sub-c : goal.overflow_sub-c
overflow_sub-c c =
    let a = c.args in
    (passed a.table.now a.trace.now a.claim a.c a.tap.0 a.words (search rules) c.test_opening.ensures.0
    c.in_ok-test_opening.was c.test_edit.ensures c.in_ok-test_edit.was).low

pub row-requires : goal.row-requires
row-requires c =
    let a = c.args in
    let p = passed a.table.now a.trace.now a.claim a.c a.tap.0 a.words (search rules) c.test_opening.ensures.0
    c.in_ok-test_opening.was c.test_edit.ensures c.in_ok-test_edit.was in
    (omega (arith, p.rewrites.few, p.high), omega arith)

pub cells-row-requires : goal.cells-row-requires
cells-row-requires c =
    let a = c.args in
    let p = passed a.table.now a.trace.now a.claim a.c a.tap.0 a.words (search rules) c.test_opening.ensures.0
    c.in_ok-test_opening.was c.test_edit.ensures c.in_ok-test_edit.was in
    has_claim_row _ _ _ _ _ p.rewrites (search rules) _ p.low p.high _ c.row.ensures _ c.rewrite.ensures

pub returns : goal.returns
unfolding edit_answer edit_leaves altered_taps
returns c =
    let a = c.args in
    let p = passed a.table.now a.trace.now a.claim a.c a.tap.0 a.words (search rules) c.test_opening.ensures.0
    c.in_ok-test_opening.was c.test_edit.ensures c.in_ok-test_edit.was in
    let e = c.rewrite.ensures in (
      value_returned refl p.passes
          (output_shown _ _ _ _ _ p.rewrites (search rules) _ p.low p.high _ c.row.ensures _ e _
          c.cells-row.ensures.0),
      leaves_new refl _ p.passes e,
    )
