-- `board_to_full::write_elements`: the elements passed are written, one after the other.
-- Assumes nothing.
use mathlib.Core.Path.{◌≡◌}
use lib.ListN.{take}
use lib.Seq.{sets}
use Rattle.board_words.specs.Words.{bytes_of}
use Rattle.board_words.specs.Elements.{words_of}
use Rattle.board_short_read.specs.Reading.{first_word, shorts_at}
use Rattle.board_to_full.proofs.write_elements.Given as goal

abbrev pub invariant-loop-i : goal.invariant-loop-i
invariant-loop-i l =
    (l.at ≡ first_word l.file 1 l.i)
    × (l.destination ≡ sets l.initial.destination 4 (bytes_of (words_of (take l.i (shorts_at l.file 1 l.count)))))
