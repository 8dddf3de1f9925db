-- `field_products::square`: the cells passed are filled with the squares, and the others are as they were.
-- Assumes nothing.
use Rattle.lists.specs.Lists.{cell}
use Rattle.lists.proofs.Tab.{Fills}
use Rattle.field.specs.MontgomeryHelpers.{times_word}
use Rattle.field_products.proofs.square.Given as goal

abbrev pub invariant-loop-x : goal.invariant-loop-x
invariant-loop-x l =
    Fills 12 (λ i. times_word (cell l.initial.x-items i) (cell l.initial.x-items i)) l.initial.x-items l.x-index
    l.x-items
