-- `lemoncolumn::lemoncolumn_hash`: Hash, or what is left of it where the output finds no room.
-- Assumes nothing.
use mathlib.Core.Path.{ap, ◌∙◌}
use Rattle.call_results.specs.Code.{answer_code}
use Rattle.call_answers.specs.Calls.{hash_call}
use Rattle.call_results.proofs.Handed.{handed_as}
use Rattle.call_answers.proofs.Answers.{stopped, hash_without, hash_no_room_refuses, hash_answer_lem}
use Rattle.lemoncolumn.proofs.lemoncolumn_hash.Goals as goal

pub returns-then-output-ne-STATE_ROOM : goal.returns-then-output-ne-STATE_ROOM
unfolding hash_call
returns-then-output-ne-STATE_ROOM c =
    let without = hash_without _ _ _ c.if-output-ne-STATE_ROOM.true in
    let coded = c.answer_code.ensures ∙ ap answer_code c.hash_no_room.ensures in
    stopped _ _ without (hash_no_room_refuses _) _ _ _ coded

pub returns : goal.returns
returns c =
    let same = c.hash.ensures ∙ hash_answer_lem _ c.if-output-ne-STATE_ROOM.false _ _ in
    handed_as _ _ _ _ _ same c.hand_over.ensures
