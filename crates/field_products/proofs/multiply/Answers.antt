-- `field_products::multiply`: a cell that is not yet passed is as it was, and canonical.
-- Assumes nothing.
use Rattle.std.proofs.Common.{rules, sym, ap, subst, ◌∙◌, arith}
use Rattle.lists.specs.Lists.{cell}
use Rattle.lists.proofs.Tab.{fills_none, fills_more, fills_next, fills_all}
use Rattle.field.specs.Field.{Canonical}
use Rattle.field.specs.MontgomeryHelpers.{times_word}
use Rattle.field_words.specs.Words.{CanonicalTo}
use Rattle.field_products.specs.CellHelpers.{word_products}
use Rattle.field_products.proofs.Products.{products_canonical}
use Rattle.field_products.proofs.multiply.Goals as goal

pub loop-j-init : goal.loop-j-init
loop-j-init c = fills_none (search rules)

pub times-requires : goal.times-requires
times-requires c =
    let turn = c.loop-j in
    let here = subst Canonical (sym (fills_next turn.invariant)) (c.args.a.now.canonical turn.j (omega arith)) in
    (here, c.args.b.canonical turn.j (omega arith), c.requires)

pub loop-j-preserved : goal.loop-j-preserved
loop-j-preserved c =
    let turn = c.loop-j in
    fills_more turn.invariant (omega arith)
    (c.times.ensures.0 ∙ ap (λ v. times_word v (cell c.args.b.words turn.j)) (fills_next turn.invariant))

pub invariant_of-a : goal.invariant_of-a
unfolding word_products
invariant_of-a c =
    record {
      canonical = subst (CanonicalTo 12) (sym (fills_all c.loop-j.invariant (omega arith))) (products_canonical _ _);
    }

pub returns : goal.returns
unfolding word_products
returns c = fills_all c.loop-j.invariant (omega arith)
