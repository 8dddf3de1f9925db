-- `field_words::first_bad`: the first word that is not canonical is the first bad word, and where there is none every
-- word is canonical.
-- Assumes nothing.
use mathlib.Core.Path.{sym, ◌∙◌}
use native.Mathlib.Omega.{arith}
use borrow.Author.Count.{below_more}
use borrow.Author.Tests.{ltb-true, ltb-false}
use Rattle.field_words.proofs.Laws.{stops, test_good, scanned_bad}
use Rattle.field_words.proofs.first_bad.Goals as goal

pub loop-i-init : goal.loop-i-init
loop-i-init c = λ j h. absurd (omega arith)

pub returns-then-not-is_canonical : goal.returns-then-not-is_canonical
returns-then-not-is_canonical c =
    let turn = c.loop-i in
    let bad = ltb-false _ _ (sym c.is_canonical.ensures ∙ c.if-not-is_canonical.true) in
    let first = stops c.args.s.now turn.i (omega arith) turn.invariant bad in
    (scanned_bad c.args.s.now first (λ e. omega arith), first)

pub loop-i-preserved : goal.loop-i-preserved
loop-i-preserved c =
    below_more _ _ c.loop-i.invariant (ltb-true _ _ (sym c.is_canonical.ensures ∙ c.if-not-is_canonical.false))

pub returns : goal.returns
returns c = test_good c.args.s.now (λ j h. c.loop-i.invariant j (omega arith))
