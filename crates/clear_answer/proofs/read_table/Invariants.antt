-- `clear_answer::read_table`: the room is filled from the front with the words of the input.
-- Assumes nothing.
use mathlib.Core.Path.{◌≡◌}
use Prim.Native.Nat.{◌≤◌}
use lib.ListN.{length}
use Rattle.lists.proofs.Tab.{filled}
use Rattle.table.specs.Table.{raw_words}
use Rattle.clear_answer.specs.Clearing.{raw_word}
use Rattle.clear_answer.proofs.read_table.Given as goal

abbrev pub invariant-loop-j : goal.invariant-loop-j
invariant-loop-j l = (l.j ≤ raw_words) × (length l.raw ≡ raw_words) × (l.raw ≡ filled l.j (raw_word l.input) l.initial.raw)
