use mathlib.Core.Path.{◌≡◌, sym, ◌∙◌}
use native.Mathlib.Omega.{arith}
use lib.ListN.{length-set}
use Rattle.lists.proofs.Tab.{filled_none, filled_more, filled_all}
use Rattle.table.specs.Table.{raw_words}
use Rattle.clear_answer.specs.Clearing.{raw_in}
use Rattle.clear_answer.proofs.read_table.Goals as goal

pub loop-j-init : goal.loop-j-init
loop-j-init c = (omega arith, c.requires.1, filled_none _ _)

pub raw_word-requires : goal.raw_word-requires
raw_word-requires c = omega (arith, c.requires)

pub loop-j-preserved : goal.loop-j-preserved
loop-j-preserved c =
    let l = c.loop-j in
    (omega arith, simp length-set l.invariant.1, filled_more _ _ _ _ _ (omega arith) c.raw_word.ensures l.invariant.2)

pub shape_of-raw : goal.shape_of-raw
shape_of-raw c = c.loop-j.invariant.1 ∙ sym c.requires.1

pub returns : goal.returns
unfolding raw_in
returns c =
    let l = c.loop-j in
    let e : l.j ≡ raw_words = omega arith in
    l.invariant.2 ∙ rw e (filled_all raw_words _ _ c.requires.1)
