use mathlib.Core.Path.{sym, ◌∙◌}
use native.Mathlib.Omega.{arith}
use Rattle.lists.proofs.Tab.{fills_none, fills_more, fills_all, tab_cell}
use Rattle.table.specs.Table.{table_words}
use Rattle.table_prepare.proofs.Prepared.{length_prepared}
use Rattle.table_prepare.proofs.write.Goals as goal

pub loop-t-init : goal.loop-t-init
loop-t-init c = fills_none c.requires.2

pub prepared_word-requires : goal.prepared_word-requires
prepared_word-requires c =
    (c.requires.0, c.requires.1, omega arith)

pub loop-t-preserved : goal.loop-t-preserved
loop-t-preserved c = fills_more c.loop-t.invariant (omega arith) c.prepared_word.ensures

pub shape_of-destination : goal.shape_of-destination
shape_of-destination c = c.loop-t.invariant.size ∙ sym c.requires.2

pub returns : goal.returns
returns c =
    fills_all c.loop-t.invariant (omega arith)
    ∙ tab_cell table_words _
    (length_prepared c.args.raw.now c.args.n.now c.requires.0 c.requires.1)
