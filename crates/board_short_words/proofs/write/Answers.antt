-- `board_short_words::write`: the words but the last, then the last.
-- Assumes nothing.
use Rattle.board_short_words.proofs.Words.{write_last}
use Rattle.board_short_words.proofs.write.Goals as goal

pub returns-clause-destination_after : goal.returns-clause-destination_after
returns-clause-destination_after c =
    let first = c.write_first-last.ensures in
    write_last _ _ _ _ _ _ first.result_value first.destination_after c.write_low.ensures
