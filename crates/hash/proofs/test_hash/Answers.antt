-- `hash::test_hash`: each return is the case of the definition that the tests before it left.
-- Assumes nothing.
use mathlib.Core.Path.{refl, ap, ◌∙◌}
use Rattle.std.specs.Prelude.{Err}
use Rattle.std.proofs.lemmas.Result.{err_from_is_err_and}
use Rattle.refusals.specs.declared.Refusal.TheVariants.{TapWord}
use Rattle.refusals.proofs.Laws.{unless_refused, unless_passed, after_refused, after_accepted}
use Rattle.hash.specs.Answers.{hash_test}
use Rattle.hash.proofs.test_hash.Goals as goal

pub returns-in_err-test_and_ready : goal.returns-in_err-test_and_ready
unfolding hash_test
returns-in_err-test_and_ready c =
    let p = err_from_is_err_and c.from_residual.result c.from_residual.ensures.1 in
    let table = c.in_err-test_and_ready.ensures in
    (after_refused _ (p.1 ∙ ap Err p.2 ∙ table.0) p.1, table.1)

pub returns-in-Some : goal.returns-in-Some
unfolding hash_test
returns-in-Some c =
    let table = c.in_ok-test_and_ready.ensures in
    let bad = c.in-Some.ensures in
    (after_accepted table.0 refl (unless_refused _ bad.0 (ap (λ i. Err (TapWord i)) bad.1)), table.1)

pub returns : goal.returns
unfolding hash_test
returns c =
    let table = c.in_ok-test_and_ready.ensures in
    (after_accepted table.0 refl (unless_passed _ c.in_default.ensures refl), table.1)
