-- `call_answers::edit_no_room`: 1, 2, 4, 7, 17, 15, and then 8: each return is the case of the definition that the tests
-- before it left.
-- Assumes nothing.
use mathlib.Core.Path.{refl, ap, ◌∙◌}
use native.Mathlib.Omega.{arith}
use borrow.Author.Tests.{le-leb, lt-leb}
use Rattle.std.specs.Prelude.{Err}
use Rattle.std.proofs.lemmas.Result.{err_from_is_err_and}
use Rattle.refusals.proofs.Laws.{unless_refused, unless_passed, after_refused, after_accepted}
use Rattle.check_trace.proofs.Answers.{opened_by}
use Rattle.call_answers.specs.Calls.{edit_no_room}
use Rattle.call_answers.proofs.edit_no_room.Goals as goal

pub returns-in_err-test_opening : goal.returns-in_err-test_opening
unfolding edit_no_room
returns-in_err-test_opening c =
    let p = err_from_is_err_and c.from_residual.result c.from_residual.ensures.1 in
    after_refused _ (p.1 ∙ ap Err p.2 ∙ c.in_err-test_opening.ensures.0) p.1

pub overflow_mul-trace : goal.overflow_mul-trace
overflow_mul-trace c = omega (arith, (opened_by _ c.args.trace.now _ c.in_ok-test_opening.ensures.0 refl).1)

pub returns-then-trace-tap : goal.returns-then-trace-tap
unfolding edit_no_room
returns-then-trace-tap c =
    after_accepted c.in_ok-test_opening.ensures.0 refl (unless_refused _ (lt-leb _ _ c.if-trace-tap.true) refl)

pub returns : goal.returns
unfolding edit_no_room
returns c =
    after_accepted c.in_ok-test_opening.ensures.0 refl (unless_passed _ (le-leb _ _ c.if-trace-tap.false) refl)
