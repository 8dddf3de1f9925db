-- `clear_answer::prepare`: what is read is the raw table, and Prepare answers for that.
-- Assumes nothing.
use mathlib.Core.Path.{subst}
use Rattle.table.specs.Table.{Prepares}
use Rattle.clear_answer.proofs.prepare.Goals as goal

pub returns : goal.returns
returns c =
    let p = c.prepare in
    let table = c.args.table.now in
    subst (λ raw. Prepares raw table p.result p.new.destination) c.read_table.ensures p.ensures
