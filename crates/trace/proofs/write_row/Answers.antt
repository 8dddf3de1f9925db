-- `trace::write_row`: the part that `put` filled is back in its place, which makes it the row.
-- Assumes nothing.
use mathlib.Core.Path.{◌≡◌, sym, ap, ap₂, ◌∙◌}
use mathlib.Core.List.{List, ◌++◌, append_assoc}
use Prim.Native.Nat.{ℕ, ◌+◌, ◌*◌, ◌-◌}
use native.Mathlib.Omega.{arith}
use borrow.Author.Rules.{rules}
use borrow.Rule.Slice.PartMut.{put_mid, post_of, Post-is}
use lib.ListN.{length, take, drop}
use Rattle.trace.specs.RowHelpers.{with_rows}
use Rattle.trace.proofs.WrittenRows.{row_one}
use Rattle.trace.proofs.write_row.Goals as goal

in_place : (s : List ℕ) (r start : ℕ) (d part : List ℕ) → length s ≡ 12 → start ≡ 12 * r → part ≡ s
    → put_mid start (start + 12 - start) d part ≡ with_rows (λ i. s) r (r + 1) d
in_place s r start d part l e q =
    sym (append_assoc (take start d) part (post_of start (start + 12 - start) d))
    ∙ ap₂ (λ x y. take start d ++ x ++ y) q (Post-is start (start + 12) d (omega arith))
    ∙ ap (λ n. take n d ++ s ++ drop (n + 12) d) e
    ∙ row_one s r d l

pub returns : goal.returns
returns c =
    let entry = c.args in
    in_place entry.cells entry.row.0 _ entry.destination.now _ (search rules) c.start-start.ensures
    c.put.ensures
