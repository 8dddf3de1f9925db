-- `board_short_read::test_all`: what is left to test, once the next is accepted, and where it is refused.
-- Assumes nothing.
use mathlib.Core.Path.{◌≡◌, refl, sym, ◌∙◌}
use Prim.Native.Nat.{◌+◌, ◌-◌}
use native.Mathlib.Omega.{arith}
use borrow.Author.Tests.{eq-eqb, ne_eqb}
use Rattle.std.proofs.lemmas.Result.{err_from_is_err_and}
use Rattle.refusals.proofs.Laws.{unless_refused, unless_passed}
use Rattle.board_short_read.proofs.Tests.{accepted, next_within, tests_next, tests_stop, tests_end}
use Rattle.board_short_read.proofs.test_all.Goals as goal

pub loop-init : goal.loop-init
loop-init c =
    let a = c.args in
    let n : a.count - 0 ≡ a.count = omega arith in
    (omega arith, rw n)

pub returns-in_err-test : goal.returns-in_err-test
returns-in_err-test c =
    let p = err_from_is_err_and c.from_residual.result c.from_residual.ensures.1 in
    rw (p.1, p.2)
    (sym c.in_err-test.was
    ∙ tests_stop _ _ _ c.test.result _ (omega arith) c.test.ensures c.in_err-test.was
    ∙ c.loop.invariant.1)

pub read-at-requires : goal.read-at-requires
read-at-requires c = sym c.test.ensures ∙ c.in_ok-test.was

pub loop-preserved : goal.loop-preserved
loop-preserved c =
    let loop = c.loop in
    let a = c.in_ok-test.was in
    let count = c.args.count in
    let n : count - (loop.counter + 1) ≡ count - loop.counter - 1 = omega arith in (
      omega (arith, c.read-at.ensures.1, next_within _ _ (accepted _ _ (sym c.test.ensures ∙ a))),
      rw (c.read-at.ensures.1, n)
          (tests_next _ _ _ c.test.result (omega arith) c.test.ensures a ∙ loop.invariant.1),
    )

pub returns-then-at-file : goal.returns-then-at-file
returns-then-at-file c =
    let loop = c.loop in
    unless_refused _ (ne_eqb _ _ c.if-at-file.true) refl ∙ tests_end _ _ _ (omega arith) ∙ loop.invariant.1

pub returns : goal.returns
returns c =
    let loop = c.loop in
    unless_passed _ (eq-eqb _ _ c.if-at-file.false) refl ∙ tests_end _ _ _ (omega arith) ∙ loop.invariant.1
