-- Whether a constraint holds: for each family the two words that are compared are those of the definition (`Holding`).
-- Assumes nothing.
use mathlib.Core.Path.{ap₂, ◌∙◌}
use native.Mathlib.Omega.{arith}
use Rattle.field.specs.Field.{add}
use Rattle.hash.proofs.States.{cell_lt}
use Rattle.check_row.proofs.Holding.{from_one, to_last, next_row, holds_zeros, holds_new_zeros, holds_starts}
use Rattle.check_row.proofs.Holding.{holds_goes_on, holds_ends, holds_joins, holds_claims}
use Rattle.check_row.proofs.holds.Goals as goal

pub of-requires : goal.of-requires
of-requires c = (from_one c.requires.1, to_last c.requires.1)

pub bounds-initial_constant-j : goal.bounds-initial_constant-j
bounds-initial_constant-j c =
    omega (arith, c.initial_constant.ensures.1)

pub bounds-initial_constant-j-in-Starts : goal.bounds-initial_constant-j-in-Starts
bounds-initial_constant-j-in-Starts c =
    omega (arith, c.initial_constant-in-Starts.ensures.1)

pub of-initial-requires : goal.of-initial-requires
of-initial-requires c = cell_lt _ c.initial_constant-in-Starts.ensures.2 c.in-Starts.j

pub cell-requires-in-Ends : goal.cell-requires-in-Ends
cell-requires-in-Ends c = (next_row c.requires.1 c.next.ensures (omega arith) (omega arith), omega arith)

pub cell-requires-in-Joins-2 : goal.cell-requires-in-Joins-2
cell-requires-in-Joins-2 c = (next_row c.requires.1 c.next-in-Joins.ensures (omega arith) (omega arith), omega arith)

pub returns-in-Zeros : goal.returns-in-Zeros
returns-in-Zeros c = holds_zeros _ _ _ c.requires.1 c.in-Zeros.ensures c.cell.ensures.0

pub returns-in-NewZeros : goal.returns-in-NewZeros
returns-in-NewZeros c =
    let p = c.requires in
    holds_new_zeros _ _ _ p.1 p.2 p.3 c.in-NewZeros.ensures c.initial_constant.ensures.0

pub returns-in-Starts : goal.returns-in-Starts
returns-in-Starts c =
    let p = c.requires in
    holds_starts _ _ _ p.1 p.2 p.3 c.in-Starts.ensures c.cell-in-Starts.ensures.0
    c.initial_constant-in-Starts.ensures.0 (c.add-sum.ensures ∙ ap₂ add c.of-in-Starts.ensures c.of-initial.ensures)

pub returns-in-GoesOn : goal.returns-in-GoesOn
returns-in-GoesOn c =
    let p = c.requires in
    holds_goes_on _ _ _ p.1 p.2 p.3 c.in-GoesOn.ensures

pub returns-in-Ends : goal.returns-in-Ends
returns-in-Ends c =
    let p = c.requires in
    holds_ends _ _ _ p.1 p.2 p.3 c.in-Ends.ensures c.next.ensures c.cell-in-Ends.ensures.0

pub returns-in-Joins : goal.returns-in-Joins
returns-in-Joins c =
    holds_joins _ _ _ c.requires.1 c.in-Joins.ensures c.next-in-Joins.ensures c.cell-in-Joins.ensures.0
    c.cell-in-Joins-2.ensures.0

pub returns-in-Claims : goal.returns-in-Claims
returns-in-Claims c = holds_claims _ _ _ c.requires.1 c.in-Claims.ensures c.cell-in-Claims.ensures.0
