-- The taps, one after the other: after n of them the first 4n words are those of the definition, so after all of
-- them all are.
-- Assumes nothing.
use mathlib.Core.Path.{◌≡◌}
use Prim.Native.Nat.{◌*◌}
use lib.ListN.{length}
use Rattle.lists.proofs.Tab.{filled}
use Rattle.check_constraints.specs.ReadOff.{read_word}
use Rattle.trace_read_off.proofs.write_taps.Given as goal

abbrev pub invariant-loop-n : goal.invariant-loop-n
invariant-loop-n l =
    (length l.destination ≡ length l.initial.destination)
    × (l.destination ≡ filled (4 * l.n) (read_word l.back.table.now l.trace) l.initial.destination)
