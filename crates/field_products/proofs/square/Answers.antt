-- `field_products::square`: a cell that is not yet passed is as it was, and canonical.
-- Assumes nothing.
use Rattle.std.proofs.Common.{rules, sym, ap, subst, ◌∙◌, arith}
use Rattle.lists.proofs.Tab.{fills_none, fills_more, fills_next, fills_all}
use Rattle.field.specs.Field.{Canonical}
use Rattle.field.specs.MontgomeryHelpers.{times_word}
use Rattle.field_words.specs.Words.{CanonicalTo}
use Rattle.field_products.specs.CellHelpers.{word_products}
use Rattle.field_products.proofs.Products.{products_canonical}
use Rattle.field_products.proofs.square.Goals as goal

pub loop-x-init : goal.loop-x-init
loop-x-init c = fills_none (search rules)

pub times-requires : goal.times-requires
times-requires c =
    let turn = c.loop-x in
    let here = subst Canonical (sym (fills_next turn.invariant)) (c.args.a.now.canonical turn.x-index (omega arith)) in
    (here, here, c.requires)

pub loop-x-preserved : goal.loop-x-preserved
loop-x-preserved c =
    let turn = c.loop-x in
    fills_more turn.invariant (omega arith)
    (c.times.ensures.0 ∙ ap (λ v. times_word v v) (fills_next turn.invariant))

pub invariant_of-a : goal.invariant_of-a
unfolding word_products
invariant_of-a c =
    record {
      canonical = subst (CanonicalTo 12) (sym (fills_all c.loop-x.invariant (omega arith))) (products_canonical _ _);
    }

pub returns : goal.returns
unfolding word_products
returns c = fills_all c.loop-x.invariant (omega arith)
