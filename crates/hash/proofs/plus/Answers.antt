-- `hash::plus`: each cell and word that are added are canonical, and twelve sums are the definition's.
-- Assumes nothing.
use mathlib.Core.Path.{refl, ap₂, ◌∙◌}
use native.Mathlib.Omega.{arith}
use Rattle.lists.proofs.Tab.{fills_none, fills_more, fills_all}
use Rattle.field.specs.Field.{add}
use Rattle.hash.specs.Hash.{plus}
use Rattle.hash.proofs.plus.Goals as goal

pub loop-j-init : goal.loop-j-init
loop-j-init c = fills_none refl

pub loop-j-preserved : goal.loop-j-preserved
loop-j-preserved c =
    fills_more c.loop-j.invariant (omega arith) (c.add.ensures ∙ ap₂ add c.of.ensures c.of-in-loop-j.ensures)

pub returns : goal.returns
unfolding plus
returns c = fills_all c.loop-j.invariant (omega arith)
