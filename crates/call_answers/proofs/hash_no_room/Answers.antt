-- `call_answers::hash_no_room`: 1, 2, 4, and then 8: each return is the case of the definition that the table test left.
-- Assumes nothing.
use mathlib.Core.Path.{refl, ap, ◌∙◌}
use Rattle.std.specs.Prelude.{Err}
use Rattle.std.proofs.lemmas.Result.{err_from_is_err_and}
use Rattle.refusals.proofs.Laws.{after_refused, after_accepted}
use Rattle.call_answers.specs.Calls.{hash_no_room}
use Rattle.call_answers.proofs.hash_no_room.Goals as goal

pub returns-in_err-test : goal.returns-in_err-test
unfolding hash_no_room
returns-in_err-test c =
    let p = err_from_is_err_and c.from_residual.result c.from_residual.ensures.1 in
    after_refused _ (p.1 ∙ ap Err p.2 ∙ c.in_err-test.ensures) p.1

pub returns : goal.returns
unfolding hash_no_room
returns c = after_accepted c.in_ok-test.ensures refl refl
