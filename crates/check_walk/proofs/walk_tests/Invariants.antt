-- The walk: at every row and at every test, the walk over what is left gives the answer of the whole (`WalkSteps`). A
-- test that holds or does not apply is passed over, one that fails is the answer, and so is the count where no row is
-- left.
-- Assumes nothing.
use mathlib.Core.Path.{◌≡◌}
use Prim.Native.Nat.{◌+◌, ◌-◌, ◌*◌, ◌≤◌, ◌<◌}
use Rattle.check_walk.proofs.WalkSteps.{answer, rows as from_row, constraints}
use Rattle.check_walk.proofs.walk_tests.Given as goal

abbrev pub invariant-loop-constraint : goal.invariant-loop-constraint
invariant-loop-constraint l =
    let T = l.steps.ready.table.now in
    let q = l.constraint in
    let end = l.constraint-end in
    (1 ≤ q) × (q ≤ end) × (end ≤ 53) × (l.tests < 52 * l.i + q)
    × (constraints T l.trace l.claim l.c l.k l.i q (l.rows - (l.i + 1)) l.tests ≡ answer T l.trace l.claim l.c l.k)

abbrev pub decreases-loop-constraint : goal.decreases-loop-constraint
decreases-loop-constraint l = l.constraint-end - l.constraint

abbrev pub invariant-walk : goal.invariant-walk
invariant-walk l =
    let T = l.steps.ready.table.now in
    (l.i ≤ l.rows) × (l.tests ≤ 52 * l.i)
    × (from_row T l.trace l.claim l.c l.k l.i (l.rows - l.i) l.tests ≡ answer T l.trace l.claim l.c l.k)

abbrev pub decreases-walk : goal.decreases-walk
decreases-walk l = l.rows - l.i
