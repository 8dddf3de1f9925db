-- `lemoncolumn::lemoncolumn_chain`: Chain, or what is left of it where the output finds no room.
-- Assumes nothing.
use mathlib.Core.Path.{ap, ◌∙◌}
use Rattle.call_results.specs.Code.{answer_code}
use Rattle.call_answers.specs.Calls.{chain_call}
use Rattle.call_results.proofs.Handed.{handed_as}
use Rattle.call_answers.proofs.Answers.{stopped, chain_without, chain_no_room_refuses, chain_answer_lem}
use Rattle.lemoncolumn.proofs.lemoncolumn_chain.Goals as goal

pub returns-then-output-ne4 : goal.returns-then-output-ne4
unfolding chain_call
returns-then-output-ne4 c =
    let without = chain_without _ _ _ c.if-output-ne4.true in
    let coded = c.answer_code.ensures ∙ ap answer_code c.chain_no_room.ensures in
    stopped _ _ without (chain_no_room_refuses _ _) _ _ _ coded

pub returns : goal.returns
returns c =
    let same = c.chain.ensures ∙ chain_answer_lem _ c.if-output-ne4.false _ _ in
    handed_as _ _ _ _ _ same c.hand_over.ensures
