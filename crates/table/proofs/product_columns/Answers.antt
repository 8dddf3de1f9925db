use mathlib.Core.Path.{refl, subst}
use native.Mathlib.Omega.{arith}
use Rattle.lists.proofs.Tab.{fills_none, fills_more, fills_all}
use Rattle.table.proofs.Tested.{column_canonical, next_cell}
use Rattle.table.proofs.product_columns.Invariants.{SoFar}
use Rattle.table.proofs.product_columns.Goals as goal

pub loop-k-init : goal.loop-k-init
loop-k-init c = (omega arith, fills_none refl)

pub invariant_of-column : goal.invariant_of-column
invariant_of-column c =
    record {
      canonical = column_canonical c.args.n.now _ c.loop-k.k c.requires.1 c.requires.2 (omega arith) c.column.ensures;
    }

pub loop-i-preserved : goal.loop-i-preserved
loop-i-preserved c =
    let start = c.args in
    let next =
    next_cell start.ready.now start.n.now _ _ c.loop-k.k c.loop-i.i (omega arith)
    c.column.ensures c.mix.ensures in (
      omega arith,
      subst (SoFar start.ready.now start.n.now _) (omega arith)
          (fills_more c.loop-i.invariant.1 (omega arith) next),
    )

pub returns : goal.returns
returns c = fills_all c.loop-k.invariant.1 (omega arith)
