-- `board_words::write_all`: the elements passed are written, one after the other.
-- Assumes nothing.
use mathlib.Core.Path.{◌≡◌}
use Prim.Native.Nat.{◌*◌}
use lib.ListN.{take}
use lib.Seq.{sets}
use Rattle.board_words.specs.Words.{bytes_of}
use Rattle.board_words.specs.Elements.{words_of}
use Rattle.board_words.proofs.write_all.Given as goal

abbrev pub invariant-loop-i : goal.invariant-loop-i
invariant-loop-i l =
    l.destination ≡ sets l.initial.destination (4 * l.index) (bytes_of (words_of (take l.i l.elements)))
