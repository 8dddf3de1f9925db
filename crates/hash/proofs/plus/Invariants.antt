-- `hash::plus`: the cells passed are the sums.
-- Assumes nothing.
use Rattle.lists.specs.Lists.{cell}
use Rattle.lists.proofs.Tab.{Fills}
use Rattle.field.specs.Field.{add}
use Rattle.hash.proofs.plus.Given as goal

abbrev pub invariant-loop-j : goal.invariant-loop-j
invariant-loop-j l = Fills 12 (λ i. add (cell l.s i) (cell l.constant i)) l.initial.out l.j l.out
