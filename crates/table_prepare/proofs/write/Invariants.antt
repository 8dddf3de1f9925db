-- `table_prepare::write`: the words passed are those of the prepared table, each by `prepared_word`.
-- Assumes nothing.
use Rattle.lists.specs.Lists.{cell}
use Rattle.lists.proofs.Tab.{Fills}
use Rattle.table.specs.Table.{table_words, prepared}
use Rattle.table_prepare.proofs.write.Given as goal

abbrev pub invariant-loop-t : goal.invariant-loop-t
invariant-loop-t l =
    Fills table_words (cell (prepared l.raw l.n)) l.initial.destination l.t l.destination
