-- `board_to_short::write_elements`: the elements passed are written, one after the other.
-- Assumes nothing.
use mathlib.Core.Path.{◌≡◌}
use Prim.Native.Nat.{◌+◌}
use lib.ListN.{length, take}
use lib.Seq.{sets}
use Rattle.board_words.specs.Words.{bytes_of}
use Rattle.board_words.specs.Elements.{elements_at}
use Rattle.board_short_words.specs.Short.{short_words_of}
use Rattle.board_to_short.proofs.write_elements.Given as goal

abbrev pub invariant-loop-i : goal.invariant-loop-i
invariant-loop-i l =
    (l.at ≡ 1 + length (short_words_of (take l.i (elements_at l.file 1 l.count))))
    × (l.destination ≡ sets l.initial.destination 4 (bytes_of (short_words_of (take l.i (elements_at l.file 1 l.count)))))
