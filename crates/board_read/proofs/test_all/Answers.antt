-- `board_read::test_all`: what is left to test, once the next is accepted, and where it is refused.
-- Assumes nothing.
use mathlib.Core.Path.{◌≡◌, sym, ◌∙◌}
use Prim.Native.Nat.{◌+◌, ◌*◌, ◌-◌}
use native.Mathlib.Omega.{arith}
use Rattle.std.proofs.lemmas.Result.{err_from_is_err_and}
use Rattle.board_words.proofs.Tests.{tests_none, tests_on, tests_stop}
use Rattle.board_read.proofs.test_all.Goals as goal

pub loop-i-init : goal.loop-i-init
loop-i-init c =
    let a = c.args in
    let j : a.index + 3 * 0 ≡ a.index = omega arith in
    let n : a.count - 0 ≡ a.count = omega arith in
    rw (j, n)

pub returns : goal.returns
returns c =
    let loop = c.loop-i in
    let none : c.args.count - loop.i ≡ 0 = omega arith in
    sym (sym loop.invariant ∙ rw none (tests_none _ _))

pub returns-in_err-test : goal.returns-in_err-test
returns-in_err-test c =
    let p = err_from_is_err_and c.from_residual.result c.from_residual.ensures.1 in
    rw (p.1, p.2)
    (sym c.in_err-test.was
    ∙ tests_stop _ _ _ c.loop-i.i c.test.result _ c.loop-i-test.true c.test.ensures c.in_err-test.was
    ∙ c.loop-i.invariant)

pub loop-i-preserved : goal.loop-i-preserved
loop-i-preserved c =
    let loop = c.loop-i in
    tests_on _ _ _ loop.i c.test.result c.loop-i-test.true c.test.ensures c.in_ok-test.was
    ∙ loop.invariant
