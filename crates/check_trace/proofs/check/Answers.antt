-- `check_trace::check`: each return is the case of the definition that the tests before it left.
-- Assumes nothing.
use mathlib.Core.Path.{refl, sym, ◌∙◌}
use Rattle.std.proofs.lemmas.Result.{err_from_is_err_and}
use Rattle.refusals.proofs.Laws.{after_refused, after_accepted, value_turned_back}
use Rattle.table.proofs.Theorems.{ready_left_lem}
use Rattle.check_trace.specs.Answers.{check_test, check_answer}
use Rattle.check_trace.proofs.Answers.{opened_by, walked}
use Rattle.check_trace.proofs.check.Goals as goal

pub returns-in_err-test_opening : goal.returns-in_err-test_opening
unfolding check_answer check_test
returns-in_err-test_opening c =
    let p = err_from_is_err_and c.from_residual.result c.from_residual.ensures.1 in
    let tested = sym c.in_err-test_opening.was ∙ c.test_opening.ensures.0 in
    rw (p.1, p.2) (value_turned_back (after_refused _ tested refl) _ refl)

pub make_inverse_ready-requires : goal.make_inverse_ready-requires
make_inverse_ready-requires c =
    ((opened_by _ c.args.trace.now _ c.test_opening.ensures.0 c.in_ok-test_opening.was).0.table, refl)

pub invariant_of-ready : goal.invariant_of-ready
invariant_of-ready c =
    let s = opened_by _ c.args.trace.now _ c.test_opening.ensures.0 c.in_ok-test_opening.was in
    record { accepted = s.0.table; made = ready_left_lem _ _ s.0.table c.test_opening.ensures.1 }

pub test_trace-requires : goal.test_trace-requires
test_trace-requires c =
    let s = opened_by _ c.args.trace.now _ c.test_opening.ensures.0 c.in_ok-test_opening.was in
    (s.0.size, s.0.high, s.1)

pub returns : goal.returns
unfolding check_answer check_test
returns c =
    walked _ _ c.test_trace.ensures
    (after_accepted c.test_opening.ensures.0 c.in_ok-test_opening.was refl)
