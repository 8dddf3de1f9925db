-- `clear_line::put_line`: a word, its numbers and the line's end stand one after the other.
-- Assumes nothing.
use native.Mathlib.Omega.{arith}
use Rattle.clear_line.proofs.Fields.{length_line, line_bytes}
use Rattle.clear_line.proofs.put_line.Goals as goal

pub returns : goal.returns
returns c =
    let word = c.put_word-start.ensures in
    let numbers = c.put_numbers-end.ensures in (
      omega (arith, numbers.0, word.0, length_line c.args.word.now c.args.numbers.now),
      line_bytes _ _ _ _ _ _ _ word.0 word.1 numbers.0 numbers.1,
      omega (arith, numbers.2, word.0, c.requires),
    )
