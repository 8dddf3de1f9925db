-- `table::first_unlike`: the product is of M and the stored inverse, and the rows passed are those of the identity.
-- Assumes nothing.
use mathlib.Core.Path.{◌≡◌}
use mathlib.Core.Bool.{false}
use Prim.Native.Nat.{ℕ, ◌*◌, ◌<◌}
use Rattle.table.specs.Table.{unlike}
use Rattle.table.proofs.first_unlike.Given as goal

abbrev pub invariant-loop-row : goal.invariant-loop-row
invariant-loop-row l = (d : ℕ) → d < 12 * l.row → unlike l.table d ≡ false
