-- `field_roots::scaled_roots`: the cells raised to (2p - 1) / 3 as words of Montgomery's form, and left by the product
-- with the factor.
-- Assumes nothing.
use mathlib.Core.Path.{ap, ◌∙◌}
use Rattle.lists.specs.Lists.{cell, tab}
use Rattle.field.specs.Field.{mul}
use Rattle.field_roots.proofs.Powers.{left, roots_of_powers}
use Rattle.field_roots.proofs.scaled_roots.Goals as goal

pub returns : goal.returns
returns c =
    let f = c.args.factor in
    c.multiply.ensures
    ∙ left c.third_powers-acc.result.words f
    ∙ ap (λ x. tab 12 (λ j. mul f (cell x j))) c.third_powers-acc.ensures
    ∙ roots_of_powers c.args.s.words f
