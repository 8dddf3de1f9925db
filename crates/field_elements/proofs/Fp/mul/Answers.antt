-- `field_elements::Fp::mul`: after each digit there is one word, and three digits gather the whole.
-- Assumes nothing.
use mathlib.Core.Path.{◌∙◌}
use native.Mathlib.Omega.{arith}
use Rattle.field.proofs.Folding.{first_word, second_word, third_word, whole_product}
use Rattle.field_elements.proofs.Fp.mul.Goals as goal

pub returns : goal.returns
returns c =
    let a = c.args.self in
    let b = c.args.other in
    let first = first_word a.word b.word (omega arith) _ c.append-first.ensures in
    let second = second_word a.word b.word (omega arith) _ _ first c.append-second.ensures in
    third_word a.word b.word (omega arith) _ _ second c.append.ensures ∙ whole_product a.word b.word (omega arith)
