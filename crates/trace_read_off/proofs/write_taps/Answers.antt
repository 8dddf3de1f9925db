-- The words of a tap are copied behind those of the taps before it (`ReadLaws.four_more`).
-- Assumes nothing.
use mathlib.Core.Path.{refl, ap, ◌∙◌}
use native.Mathlib.Omega.{arith}
use lib.ListN.{length}
use Rattle.lists.proofs.Tab.{filled_none, length_filled}
use Rattle.check_constraints.specs.ReadOff.{read_word}
use Rattle.trace_read_off.proofs.ReadLaws.{four_more, all_taps}
use Rattle.trace_read_off.proofs.write_taps.Goals as goal

pub loop-n-init : goal.loop-n-init
loop-n-init c = (refl, filled_none _ _)

pub loop-n-preserved : goal.loop-n-preserved
loop-n-preserved c =
    let l = c.loop-n in
    let a = c.args in
    let f = read_word a.back.table.now a.trace.now in
    let e = four_more f l.n _ a.destination.now l.destination c.start-start.ensures (omega arith)
    (c.copy_from_slice.ensures.after ∙ c.read_tap-words.ensures) l.invariant.1 in
    (ap length e ∙ length_filled _ f a.destination.now (omega arith), e)

pub returns : goal.returns
returns c =
    let l = c.loop-n in
    let a = c.args in
    all_taps a.back.table.now a.trace.now a.k l.n a.destination.now l.destination c.requires.4
    (omega arith) l.invariant.1
