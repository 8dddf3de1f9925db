-- `matrix_ready::make_ready`: the columns passed are stored, each with its weight, and then 2^31 times it.
-- Assumes nothing.
use mathlib.Core.Path.{◌≡◌}
use Prim.Native.Nat.{◌≤◌}
use lib.ListN.{length}
use Rattle.matrix_ready.proofs.ReadyWords.{stored_to}
use Rattle.matrix_ready.proofs.make_ready.Given as goal

abbrev pub invariant-loop-j : goal.invariant-loop-j
invariant-loop-j l = (l.j ≤ 12) × (length l.out ≡ 288) × (l.out ≡ stored_to l.m l.scale l.initial.out l.j)
