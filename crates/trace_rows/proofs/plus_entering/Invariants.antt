-- `trace_rows::plus_entering`: the columns passed are the sums, the others as they were; after four that is the
-- definition.
-- Assumes nothing.
use Rattle.lists.specs.Lists.{cell}
use Rattle.lists.proofs.Tab.{Fills}
use Rattle.field.specs.Field.{add}
use Rattle.table.specs.Table.{initial_constant}
use Rattle.trace_rows.proofs.plus_entering.Given as goal

abbrev pub invariant-loop-j : goal.invariant-loop-j
invariant-loop-j l = Fills 12 (λ i. add (cell l.s i) (cell (initial_constant l.table) i)) l.s l.j l.out
