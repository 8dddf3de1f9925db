-- `field_elements::append`: what lies above 2^61 is folded, and the difference of the two is the next word.
-- Assumes nothing.
use mathlib.Core.Path.{refl, ◌∙◌}
use Prim.Native.Nat.{◌*◌}
use Rattle.field.proofs.Folding.{digit, append_law, upper_low, fold_low}
use Rattle.field_elements.proofs.append.Goals as goal

pub returns : goal.returns
returns c =
    let bounds = digit c.args.a.word c.args.digit c.args.a.canonical c.requires in
    let u_low = upper_low c.args.word.word _ _ c.args.word.canonical bounds.low bounds.high in
    c.sub.ensures
    ∙ append_law c.args.word.word _ _ (c.args.a.word * c.args.digit) _ refl bounds.whole (fold_low _ u_low)
