-- `check_steps::forward_step`: the first words of the constant are its own, and are canonical; each column that is
-- stored is the definition's.
-- Assumes nothing.
use mathlib.Core.Path.{◌≡◌, refl, sym, ap, ap₂, ◌∙◌, subst}
use mathlib.Core.List.{List}
use Prim.Native.Nat.{ℕ, ◌<◌}
use native.Mathlib.Omega.{arith}
use lib.ListN.{length, take, replicate, length-take}
use lib.Seq.{get_or-take}
use Rattle.lists.specs.Lists.{cell}
use Rattle.lists.proofs.Tab.{filled, fills_none, fills_more}
use Rattle.field.specs.Field.{Canonical, add}
use Rattle.table.proofs.ReadyLaws.{ready_is}
use Rattle.hash.proofs.States.{cell_lt}
use Rattle.check_steps.proofs.Made.{second_made}
use Rattle.check_steps.proofs.forward_step.Invariants.{plus_constant}
use Rattle.check_steps.proofs.forward_step.Goals as goal

-- a cell of its first words is its own
cell_lent : (k : List ℕ) (n j : ℕ) → j < length (take n k) → cell (take n k) j ≡ cell k j
cell_lent k n j h = get_or-take n k j 0 (omega (arith, length-take n k))

pub mix-mixed-requires : goal.mix-mixed-requires
mix-mixed-requires c = ready_is _ _ c.args.ready.made

pub slice_bounds-k-items-end : goal.slice_bounds-k-items-end
slice_bounds-k-items-end c =
    let k = c.second_step_constant-constant in
    omega (arith, length-take c.args.count k.result.now, k.ensures.1)

pub loop-j-init : goal.loop-j-init
loop-j-init c = fills_none refl

pub of-requires-in-loop-j : goal.of-requires-in-loop-j
of-requires-in-loop-j c =
    let k = c.second_step_constant-constant.ensures in
    subst Canonical (sym (cell_lent _ c.args.count c.loop-j.j (omega arith))) (cell_lt _ k.2 c.loop-j.j)

pub loop-j-preserved : goal.loop-j-preserved
loop-j-preserved c =
    let k = c.second_step_constant-constant in
    let j = c.loop-j.j in
    fills_more c.loop-j.invariant (omega (arith, length-take c.args.count k.result.now))
    (c.add.ensures
    ∙ ap₂ add c.of.ensures
    (c.of-in-loop-j.ensures ∙ cell_lent k.result.now c.args.count j (omega arith) ∙ ap (λ x. cell x j) k.ensures.0))

pub returns : goal.returns
returns c =
    let loop = c.loop-j in
    let a = c.args in
    let k = c.second_step_constant-constant in
    let e : loop.j ≡ a.count = omega (arith, length-take a.count k.result.now, k.ensures.1) in
    second_made _ _ _ _ _ _ _ a.count c.requires.2 a.ready.made c.montgomery_cubes.ensures c.mix-mixed.ensures
    (loop.invariant.so_far
    ∙ ap (λ n. filled n (plus_constant a.ready.table.now a.round c.mix-mixed.result.words) (replicate 12 0)) e)
