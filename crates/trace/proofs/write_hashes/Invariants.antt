-- `trace::write_hashes`: the rows of the hashes passed are the trace's, and the state begins with the last output.
-- Assumes nothing.
use mathlib.Core.Path.{◌≡◌}
use Prim.Native.Nat.{◌≤◌}
use lib.ListN.{length, take}
use Rattle.hash.specs.Hash.{output_at}
use Rattle.trace.specs.Trace.{trace_row}
use Rattle.trace.specs.RowHelpers.{with_rows, rows_before}
use Rattle.trace.proofs.write_hashes.Given as goal

abbrev pub invariant-loop-h : goal.invariant-loop-h
invariant-loop-h l =
    (l.h ≤ l.hashes) × (length l.destination ≡ length l.initial.destination)
    × (take 4 l.state ≡ output_at l.ready.table.now l.taps l.h)
    × (l.destination ≡ with_rows (trace_row l.ready.table.now l.taps) 0 (rows_before l.h) l.initial.destination)
