-- `hash_chain::test_chain`: each return is the case of the definition that the tests before it left.
-- Assumes nothing.
use mathlib.Core.Path.{◌≡◌, refl, ap, ◌∙◌}
use native.Mathlib.Omega.{arith}
use lib.ListN.{length}
use Rattle.std.specs.Prelude.{Some, None, Err, ok_or}
use Rattle.std.proofs.lemmas.Result.{err_from_is_err_and}
use Rattle.numbers.specs.Numbers.{most_batches}
use Rattle.numbers.proofs.Laws.{tap_permitted, tap_refused}
use Rattle.refusals.specs.declared.Refusal.TheVariants.{TapLength, TapWord}
use Rattle.refusals.proofs.Laws.{refused_same, unless_refused, unless_passed, after_refused, after_accepted}
use Rattle.hash_chain.specs.Answers.{chain_test}
use Rattle.hash_chain.proofs.test_chain.Goals as goal

pub returns-in_err-test_and_ready : goal.returns-in_err-test_and_ready
unfolding chain_test
returns-in_err-test_and_ready c =
    let p = err_from_is_err_and c.from_residual.result c.from_residual.ensures.1 in
    let table = c.in_err-test_and_ready.ensures in
    (after_refused _ (p.1 ∙ ap Err p.2 ∙ table.0) p.1, table.1)

pub returns-in_err-ok_or : goal.returns-in_err-ok_or
unfolding chain_test
returns-in_err-ok_or c =
    let p = err_from_is_err_and c.from_residual-in_err-ok_or.result c.from_residual-in_err-ok_or.ensures.1 in
    let table = c.in_ok-test_and_ready.ensures in
    let none : c.tap_batches.result ≡ None = grind arith in
    let same = refused_same (c.in_err-ok_or.ensures.value ∙ ap (λ b. ok_or b TapLength) none) in (
      after_accepted table.0 refl
          (unless_refused _ (tap_refused most_batches (length c.args.taps.now) c.tap_batches.ensures none)
          (p.1 ∙ ap Err (p.2 ∙ same))),
      table.1,
    )

pub returns-in-Some : goal.returns-in-Some
unfolding chain_test
returns-in-Some c =
    let table = c.in_ok-test_and_ready.ensures in
    let some : c.tap_batches.result ≡ Some c.in_ok-ok_or.field-0 = grind arith in
    let count = tap_permitted most_batches (length c.args.taps.now) c.tap_batches.ensures some in
    let bad = c.in-Some.ensures in (
      after_accepted table.0 refl
          (unless_passed TapLength count.0 (unless_refused _ bad.0 (ap (λ i. Err (TapWord i)) bad.1))),
      table.1,
    )

pub returns : goal.returns
unfolding chain_test
returns c =
    let table = c.in_ok-test_and_ready.ensures in
    let some : c.tap_batches.result ≡ Some c.in_ok-ok_or.field-0 = grind arith in
    let count = tap_permitted most_batches (length c.args.taps.now) c.tap_batches.ensures some in (
      after_accepted table.0 refl (unless_passed TapLength count.0 (unless_passed _ c.in_default.ensures refl)),
      table.1,
    )
