-- `board::write_file`: word 0, then claim and taps, one after the other.
-- Assumes nothing.
use native.Mathlib.Omega.{arith}
use Rattle.board.proofs.Files.{file_written}
use Rattle.board.proofs.write_file.Goals as goal

pub returns : goal.returns
returns c =
    let a = c.args in
    file_written a.destination.now _ _ _ a.taps.now a.claim a.k c.count_word.result.0
    (omega arith) c.requires.1 c.requires.2 c.count_word.ensures c.write.ensures
    c.write_all.ensures c.write_all-2.ensures
