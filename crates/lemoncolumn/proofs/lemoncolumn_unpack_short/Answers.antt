-- `lemoncolumn::lemoncolumn_unpack_short`: the short edition's reader, or what is left of it where the claim finds no room,
-- no list of taps having 0 words.
-- Assumes nothing.
use mathlib.Core.Path.{ap, ◌∙◌}
use Rattle.call_results.specs.Code.{words_code}
use Rattle.call_results.proofs.Handed.{handed_as}
use Rattle.call_answers.proofs.Answers.{kept, list_kept, unpack_short_without, unpack_short_stopped}
use Rattle.call_answers.proofs.Answers.{no_short_list_refuses}
use Rattle.call_answers.proofs.Answers.{unpack_short_answer_lem, unpack_short_left}
use Rattle.lemoncolumn.proofs.lemoncolumn_unpack_short.Goals as goal

pub returns-then-claim-ne4 : goal.returns-then-claim-ne4
returns-then-claim-ne4 c =
    let without = c.if-claim-ne4.true in
    let coded = c.words_code.ensures ∙ ap words_code c.unpack_short.ensures.value in
    record {
      four = unpack_short_stopped _ _ _ without _ _ coded;
      list =
          list_kept c.unpack_short.new.destination _ c.unpack_short.auto.destination
          ∙ kept _ _ (unpack_short_without _ _ _ without) (no_short_list_refuses _) _ _;
    }

pub returns : goal.returns
returns c =
    let room = c.if-claim-ne4.false in
    let same = c.unpack_short-2.ensures.value ∙ unpack_short_answer_lem _ room _ _ in
    record {
      four = handed_as _ _ _ _ _ same c.hand_over.ensures;
      list = c.unpack_short-2.ensures.destination_after ∙ unpack_short_left _ room _ _;
    }
