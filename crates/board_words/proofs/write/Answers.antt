-- `board_words::write`: the first two words, then the last.
-- Assumes nothing.
use mathlib.Core.Path.{refl}
use Rattle.board_words.proofs.Laws.{write_on}
use Rattle.board_words.proofs.write.Goals as goal

pub returns : goal.returns
returns c =
    let a = c.args in
    write_on a.destination.now _ _ _ _ a.index 2 refl c.write_upper.ensures c.write_low.ensures
