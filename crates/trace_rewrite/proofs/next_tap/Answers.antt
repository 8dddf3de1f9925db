-- `trace_rewrite::next_tap`: the new tap where the hash takes that one in, else what its rows hold.
-- Assumes nothing.
use mathlib.Core.Path.{sym, ◌∙◌}
use Rattle.trace_rewrite.proofs.Rewriting.{new_tap, held_tap}
use Rattle.trace_rewrite.proofs.next_tap.Goals as goal

pub returns-then-next-tap : goal.returns-then-next-tap
returns-then-next-tap c =
    let a = c.args in
    new_tap a.back.table.now a.trace.now a.tap.0 a.words _ (sym c.tap-next.ensures ∙ c.if-next-tap.true)

pub returns : goal.returns
returns c =
    let a = c.args in
    held_tap a.back.table.now a.trace.now a.tap.0 a.words _ _ c.tap-next.ensures c.if-next-tap.false
    c.read_tap.ensures
