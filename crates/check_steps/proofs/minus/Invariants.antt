-- `check_steps::minus`: the cells passed are the differences.
-- Assumes nothing.
use Rattle.lists.specs.Lists.{cell}
use Rattle.lists.proofs.Tab.{Fills}
use Rattle.field.specs.Field.{sub}
use Rattle.check_steps.proofs.minus.Given as goal

abbrev pub invariant-loop-j : goal.invariant-loop-j
invariant-loop-j l = Fills 12 (λ i. sub (cell l.s i) (cell l.constant i)) l.initial.out l.j l.out
