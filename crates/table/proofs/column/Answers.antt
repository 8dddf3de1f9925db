use mathlib.Core.Path.{refl}
use native.Mathlib.Omega.{arith}
use Rattle.lists.proofs.Tab.{fills_none, fills_more, fills_all}
use Rattle.table.proofs.column.Goals as goal

pub loop-j-init : goal.loop-j-init
loop-j-init c = fills_none refl

pub loop-j-preserved : goal.loop-j-preserved
loop-j-preserved c = fills_more c.loop-j.invariant (omega arith) refl

pub returns : goal.returns
returns c = fills_all c.loop-j.invariant (omega arith)
