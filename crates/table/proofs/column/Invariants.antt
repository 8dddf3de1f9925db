-- `table::column`: the cells passed are those of the column, read at steps of twelve words.
-- Assumes nothing.
use Rattle.lists.proofs.Tab.{Fills}
use Rattle.matrix.specs.Matrix.{entry}
use Rattle.table.proofs.column.Given as goal

abbrev pub invariant-loop-j : goal.invariant-loop-j
invariant-loop-j l = Fills 12 (λ j. entry l.n j l.k) l.initial.out l.j l.out
