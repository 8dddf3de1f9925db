-- `lemoncolumn::lemoncolumn_unhash`: Unhash, or what is left of it where the pair finds no room.
-- Assumes nothing.
use mathlib.Core.Path.{ap, ◌∙◌}
use Rattle.call_results.specs.Code.{answer_code}
use Rattle.call_results.proofs.Handed.{handed_as}
use Rattle.call_answers.proofs.Answers.{unhash_handed, unhash_stopped}
use Rattle.lemoncolumn.proofs.lemoncolumn_unhash.Goals as goal

pub returns-then-pair-ne-PAIR_ROOM : goal.returns-then-pair-ne-PAIR_ROOM
returns-then-pair-ne-PAIR_ROOM c =
    unhash_stopped _ _ _ _ c.if-pair-ne-PAIR_ROOM.true (c.answer_code.ensures ∙ ap answer_code c.hash_no_room.ensures)

pub returns : goal.returns
returns c =
    unhash_handed _ _ _ c.if-pair-ne-PAIR_ROOM.false _ _ (handed_as _ _ _ _ _ c.unhash.ensures c.hand_over.ensures)
