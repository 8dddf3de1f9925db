-- `matrix_ready::add_two_columns`: a word that is not yet passed is as it was, and canonical.
-- Assumes nothing.
use Rattle.std.proofs.Common.{rules, ◌+◌, ◌*◌, sym, ap, subst, ◌∙◌, mod-lt, arith}
use Rattle.lists.specs.Lists.{cell}
use Rattle.lists.proofs.Tab.{fills_none, fills_more, fills_next, fills_all, cell_tab}
use Rattle.field.specs.Field.{Canonical}
use Rattle.field.specs.Gathering.{gathered}
use Rattle.matrix_ready.proofs.add_two_columns.Goals as goal

pub loop-i-init : goal.loop-i-init
loop-i-init c = fills_none (search rules)

pub row_step-requires : goal.row_step-requires
row_step-requires c =
    let turn = c.loop-i in
    let p = c.requires in
    let here =
    subst Canonical (sym (fills_next turn.invariant)) (c.args.words.now.canonical turn.i (omega arith)) in
    (here, p.0, omega arith, p.1, p.2, p.3, p.4)

pub loop-i-preserved : goal.loop-i-preserved
loop-i-preserved c =
    let turn = c.loop-i in
    let a = c.args in
    let r = a.ready.now in
    fills_more turn.invariant (omega arith)
    (c.row_step.ensures.0
    ∙ ap (λ word. gathered (gathered word (cell r (24 * a.j + turn.i)) a.x) (cell r (24 * (a.j + 1) + turn.i)) a.y)
    (fills_next turn.invariant))

pub invariant_of-words : goal.invariant_of-words
invariant_of-words c =
    let made = fills_all c.loop-i.invariant (omega arith) in
    record {
      canonical = λ i h. subst Canonical (sym (ap (λ s. cell s i) made ∙ cell_tab 12 _ i h)) (mod-lt _ (omega arith));
    }

pub returns : goal.returns
returns c = fills_all c.loop-i.invariant (omega arith)
