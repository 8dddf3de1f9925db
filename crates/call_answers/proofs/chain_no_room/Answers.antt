-- `call_answers::chain_no_room`: 1, 2, 4, 5, and then 8: each return is the case of the definition that the tests before it
-- left.
-- Assumes nothing.
use mathlib.Core.Path.{◌≡◌, refl, ap, ◌∙◌}
use native.Mathlib.Omega.{arith}
use lib.ListN.{length}
use Rattle.std.specs.Prelude.{Some, None, Err, ok_or}
use Rattle.std.proofs.lemmas.Result.{err_from_is_err_and}
use Rattle.numbers.specs.Numbers.{most_batches}
use Rattle.numbers.proofs.Laws.{tap_permitted, tap_refused}
use Rattle.refusals.specs.declared.Refusal.TheVariants.{TapLength}
use Rattle.refusals.proofs.Laws.{refused_same, unless_refused, unless_passed, after_refused, after_accepted}
use Rattle.call_answers.specs.Calls.{chain_no_room}
use Rattle.call_answers.proofs.chain_no_room.Goals as goal

pub returns-in_err-test : goal.returns-in_err-test
unfolding chain_no_room
returns-in_err-test c =
    let p = err_from_is_err_and c.from_residual.result c.from_residual.ensures.1 in
    after_refused _ (p.1 ∙ ap Err p.2 ∙ c.in_err-test.ensures) p.1

pub returns-in_err-ok_or : goal.returns-in_err-ok_or
unfolding chain_no_room
returns-in_err-ok_or c =
    let p = err_from_is_err_and c.from_residual-in_err-ok_or.result c.from_residual-in_err-ok_or.ensures.1 in
    let none : c.tap_batches.result ≡ None = grind arith in
    let same = refused_same (c.in_err-ok_or.ensures.value ∙ ap (λ b. ok_or b TapLength) none) in
    after_accepted c.in_ok-test.ensures refl
    (unless_refused _ (tap_refused most_batches (length c.args.taps.now) c.tap_batches.ensures none)
    (p.1 ∙ ap Err (p.2 ∙ same)))

pub returns : goal.returns
unfolding chain_no_room
returns c =
    let some : c.tap_batches.result ≡ Some c.in_ok-ok_or.field-0 = grind arith in
    let permitted = (tap_permitted most_batches (length c.args.taps.now) c.tap_batches.ensures some).0 in
    after_accepted c.in_ok-test.ensures refl (unless_passed _ permitted refl)
