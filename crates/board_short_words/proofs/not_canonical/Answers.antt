-- `board_short_words::not_canonical`: what is carried above 2^63.
-- Assumes nothing.
use native.Mathlib.Omega.{arith}
use Rattle.board_short_words.proofs.Words.{carried_bad}
use Rattle.board_short_words.proofs.not_canonical.Goals as goal

pub returns : goal.returns
returns c = carried_bad _ (omega arith)
