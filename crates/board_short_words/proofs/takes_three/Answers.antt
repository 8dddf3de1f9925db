-- `board_short_words::takes_three`: what is carried above the upper bits.
-- Assumes nothing.
use native.Mathlib.Omega.{arith}
use Rattle.board_short_words.proofs.Words.{takes_three_is}
use Rattle.board_short_words.proofs.takes_three.Goals as goal

pub returns : goal.returns
returns c = takes_three_is _ (omega arith)
