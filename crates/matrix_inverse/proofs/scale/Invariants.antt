-- `matrix_inverse::scale`: the words of row r passed are the products, and the others are as they were.
-- Assumes nothing.
use Prim.Native.Nat.{ℕ, ◌<◌, ◌≤◌}
use mathlib.Core.Path.{◌≡◌}
use lib.ListN.{length}
use Rattle.lists.specs.Lists.{cell}
use Rattle.matrix_inverse.specs.EliminationHelpers.{at, scaled_row}
use Rattle.matrix_inverse.proofs.scale.Given as goal

abbrev pub invariant-loop-x : goal.invariant-loop-x
invariant-loop-x l =
    (length l.x-items ≡ 24)
    × ((k : ℕ) → k < l.x-index → cell l.x-items k ≡ scaled_row l.fn.w l.r l.fn.c.word k)
    × ((k : ℕ) → l.x-index ≤ k → k < 24 → cell l.x-items k ≡ at l.fn.w l.r k)
