-- `board_short_read::read_all`: the destination is filled from the front with the elements.
-- Assumes nothing.
use mathlib.Core.Path.{◌≡◌}
use Rattle.lists.proofs.Tab.{filled}
use Rattle.board_short_read.specs.Reading.{short_at, first_word}
use Rattle.board_short_read.proofs.read_all.Given as goal

abbrev pub invariant-loop-slot : goal.invariant-loop-slot
invariant-loop-slot l =
    (l.at ≡ first_word l.file l.index l.slot-index)
    × (l.destination ≡ filled l.slot-index (λ n. short_at l.file (first_word l.file l.index n)) l.initial.destination)
