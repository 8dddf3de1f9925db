-- `board_words::Word::payload`: the mask of 30 bits leaves the rest modulo 2^30.
-- Assumes nothing.
use lib.Bits.{and_mask}
use Rattle.board_words.proofs.Word.payload.Goals as goal

pub returns : goal.returns
returns c = and_mask c.args.self.0 30
