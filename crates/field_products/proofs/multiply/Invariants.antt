-- `field_products::multiply`: the cells passed are filled with the products, and the others are as they were.
-- Assumes nothing.
use Rattle.lists.specs.Lists.{cell}
use Rattle.lists.proofs.Tab.{Fills}
use Rattle.field.specs.MontgomeryHelpers.{times_word}
use Rattle.field_products.proofs.multiply.Given as goal

abbrev pub invariant-loop-j : goal.invariant-loop-j
invariant-loop-j l =
    Fills 12 (λ i. times_word (cell l.initial.x-items i) (cell l.b.words i)) l.initial.x-items l.j l.x-items
