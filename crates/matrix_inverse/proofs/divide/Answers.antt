-- `matrix_inverse::divide`: row j times the inverse of its word in column j has 1 there, and no new column goes to
-- zeros.
-- Assumes nothing.
use mathlib.Core.Path.{ap, ◌∙◌}
use Rattle.field.specs.Field.{inverse}
use Rattle.matrix_inverse.proofs.Steps.{divided}
use Rattle.matrix_inverse.proofs.divide.Goals as goal

pub returns : goal.returns
returns c =
    divided _ _ _ _ c.requires.0 c.requires.1 c.requires.2 (c.inverse-c.ensures ∙ ap inverse c.of.ensures)
    c.scale.ensures
