-- `clear_answer::raw_word`: two words of four bytes, the high one shifted past the low one, are the word of eight.
-- Assumes nothing.
use native.Mathlib.Omega.{arith}
use Rattle.clear_answer.proofs.RawWords.{joined_word}
use Rattle.clear_answer.proofs.raw_word.Goals as goal

pub returns : goal.returns
returns c =
    joined_word _ _ _ _ (omega arith) (omega arith) c.read-low.ensures c.read-high.ensures
