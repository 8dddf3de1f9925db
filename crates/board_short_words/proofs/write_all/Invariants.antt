-- `board_short_words::write_all`: the elements passed are written, one after the other.
-- Assumes nothing.
use mathlib.Core.Path.{◌≡◌}
use Prim.Native.Nat.{◌+◌, ◌*◌}
use lib.ListN.{length, take}
use lib.Seq.{sets}
use Rattle.board_words.specs.Words.{bytes_of}
use Rattle.board_short_words.specs.Short.{short_words_of}
use Rattle.board_short_words.proofs.write_all.Given as goal

abbrev pub invariant-loop-element : goal.invariant-loop-element
invariant-loop-element l =
    (l.at ≡ l.index + length (short_words_of (take l.element-index l.elements)))
    × (l.destination
    ≡ sets l.initial.destination (4 * l.index) (bytes_of (short_words_of (take l.element-index l.elements))))
