-- `trace_rewrite::rewrite`: the rows of the hashes passed are those of the altered list, the others are still the old
-- ones, and the state begins with the altered list's last output.
-- Assumes nothing.
use mathlib.Core.Path.{◌≡◌}
use Prim.Native.Nat.{◌-◌, ◌≤◌}
use lib.ListN.{length, take}
use Rattle.hash.specs.Hash.{output_at}
use Rattle.trace.specs.Trace.{trace_row}
use Rattle.trace.specs.RowHelpers.{with_rows, rows_before}
use Rattle.check_constraints.specs.ReadOff.{read_taps}
use Rattle.trace_rewrite.specs.Edit.{altered}
use Rattle.trace_rewrite.proofs.rewrite.Given as goal

abbrev pub invariant-loop-h : goal.invariant-loop-h
invariant-loop-h l =
    let T = l.steps.ready.table.now in
    let v = altered (read_taps T l.initial.trace l.k) l.tap.0 l.words in
    (l.start ≤ l.h) × (length l.trace ≡ length l.initial.trace) × (take 4 l.state ≡ output_at T v l.h)
    × (l.trace ≡ with_rows (trace_row T v) (rows_before (l.tap.0 - 1)) (rows_before l.h) l.initial.trace)
