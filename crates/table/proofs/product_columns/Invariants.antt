-- `table::product_columns`: the cells passed, column after column, are those of the product.
-- Assumes nothing.
use Prim.Native.Nat.{ℕ, ◌+◌, ◌*◌, ◌≤◌}
use mathlib.Core.List.{List}
use lib.ListN.{replicate}
use Rattle.lists.proofs.Tab.{Fills}
use Rattle.table.proofs.Tested.{by_columns}
use Rattle.table.proofs.product_columns.Given as goal

-- the list holds the first t cells of the product, and zeros
abbrev pub SoFar : List ℕ → List ℕ → List ℕ → ℕ → Type 0
SoFar ready n out t = Fills 144 (by_columns ready n) (replicate 144 0) t out

abbrev pub invariant-loop-i : goal.invariant-loop-i
invariant-loop-i l =
    (l.i ≤ 12) × SoFar l.ready l.n l.out (12 * l.k + l.i)

abbrev pub invariant-loop-k : goal.invariant-loop-k
invariant-loop-k l =
    (l.k ≤ 12) × SoFar l.ready l.n l.out (12 * l.k)
