-- `trace_rows::plus_entering`: K_0 is twelve canonical words, of which the first four are added.
-- Assumes nothing.
use mathlib.Core.Path.{◌≡◌, sym, ap, ap₂, ◌∙◌, subst}
use mathlib.Core.List.{List}
use Prim.Native.Nat.{ℕ}
use native.Mathlib.Omega.{arith}
use borrow.Author.Rules.{rules}
use lib.ListN.{length, take, length-take}
use Rattle.lists.specs.Lists.{cell}
use Rattle.lists.proofs.Tab.{fills_none, fills_more}
use Rattle.field.specs.Field.{Canonical, add}
use Rattle.hash.proofs.States.{cell_lt}
use Rattle.hash.proofs.Inputs.{cell_take}
use Rattle.trace_rows.proofs.RowLaws.{entering_filled}
use Rattle.trace_rows.proofs.plus_entering.Goals as goal

-- the first four of twelve words are four
four : (k : List ℕ) → length k ≡ 12 → length (take 4 k) ≡ 4
four k size = omega (arith, length-take 4 k, size)

pub slice_bounds-k-items-end : goal.slice_bounds-k-items-end
slice_bounds-k-items-end c = sym (four _ c.initial_constant-constant.ensures.1)

pub loop-j-init : goal.loop-j-init
loop-j-init c = fills_none (search rules)

pub of-requires-in-loop-j : goal.of-requires-in-loop-j
of-requires-in-loop-j c =
    let k = c.initial_constant-constant.ensures in
    let size = four _ k.1 in
    subst Canonical (sym (cell_take _ c.loop-j.j (omega (arith, size)))) (cell_lt _ k.2 c.loop-j.j)

pub loop-j-preserved : goal.loop-j-preserved
loop-j-preserved c =
    let k = c.initial_constant-constant in
    let j = c.loop-j.j in
    let size = four _ k.ensures.1 in
    fills_more c.loop-j.invariant (omega (arith, size))
    (c.add.ensures
    ∙ ap₂ add c.of.ensures
    (c.of-in-loop-j.ensures ∙ cell_take k.result.now j (omega (arith, size)) ∙ ap (λ x. cell x j) k.ensures.0))

pub returns : goal.returns
returns c =
    let size = four _ c.initial_constant-constant.ensures.1 in
    entering_filled _ _ (search rules) _ _ (omega (arith, size)) c.loop-j.invariant.so_far
