-- `trace_rows::view::row_at`: the part of twelve words from the row's start is the row.
-- Assumes nothing.
use mathlib.Core.Path.{◌≡◌, ap₂}
use mathlib.Core.List.{List}
use Prim.Native.Nat.{ℕ, ◌+◌, ◌-◌, ◌*◌}
use native.Mathlib.Omega.{arith}
use lib.ListN.{take, drop}
use Rattle.trace.specs.Trace.{row}
use Rattle.trace_rows.proofs.view.row_at.Goals as goal

part-row : (t : List ℕ) (start i : ℕ) → start ≡ 12 * i → take (start + 12 - start) (drop start t) ≡ row t i
unfolding row
part-row t start i e =
    let twelve : start + 12 - start ≡ 12 = omega arith in
    ap₂ (λ n m. take n (drop m t)) twelve e

pub returns : goal.returns
returns c =
    let a = c.args in
    let e : c.start-start.result ≡ 12 * (32 * a.batch.0 + a.within.0) = omega arith in
    part-row a.trace.now c.start-start.result (32 * a.batch.0 + a.within.0) e
