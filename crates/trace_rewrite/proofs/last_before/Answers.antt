-- `trace_rewrite::last_before`: the new tap itself, or the input of the hash that takes the tap in, as the trace holds
-- it.
-- Assumes nothing.
use Rattle.trace_rewrite.proofs.Rewriting.{new_start, held_start}
use borrow.Author.Rules.{rules}
use Rattle.trace_rewrite.proofs.last_before.Goals as goal

pub returns-then-tap-eq0 : goal.returns-then-tap-eq0
returns-then-tap-eq0 c =
    let a = c.args in
    new_start a.back.table.now a.trace.now a.tap.0 a.words c.if-tap-eq0.true (search rules)
    c.chain_start.ensures

pub returns : goal.returns
returns c =
    let a = c.args in
    held_start a.back.table.now a.trace.now a.tap.0 a.words c.if-tap-eq0.false _ c.hash.ensures
    c.read_input.ensures
