-- `lemoncolumn::lemoncolumn_edit`: Edit, or what is left of it where the output finds no room.
-- Assumes nothing.
use mathlib.Core.Path.{ap, ◌∙◌}
use Rattle.call_results.specs.Code.{answer_code}
use Rattle.call_answers.specs.Calls.{edit_call}
use Rattle.call_results.proofs.Handed.{handed_as}
use Rattle.call_answers.proofs.Answers.{stopped, kept, edit_without, edit_no_room_refuses}
use Rattle.call_answers.proofs.Answers.{edit_answer_lem, edit_left}
use Rattle.lemoncolumn.proofs.lemoncolumn_edit.Goals as goal

pub returns-then-output-ne4 : goal.returns-then-output-ne4
unfolding edit_call
returns-then-output-ne4 c =
    let without = edit_without _ _ _ _ _ _ _ c.if-output-ne4.true in
    let refuses = edit_no_room_refuses _ _ _ _ in
    record {
      four = stopped _ _ without refuses _ _ _ (c.answer_code.ensures ∙ ap answer_code c.edit_no_room.ensures);
      rows = kept _ _ without refuses _ _;
    }

pub returns : goal.returns
returns c =
    let room = c.if-output-ne4.false in
    let same = c.edit.ensures.0 ∙ edit_answer_lem _ room _ _ _ _ _ _ in
    record {
      four = handed_as _ _ _ _ _ same c.hand_over.ensures;
      rows = c.edit.ensures.1 ∙ edit_left _ room _ _ _ _ _ _;
    }
