-- The walk by its tests: what is left begins with the constraint that the loop is at (`WalkSteps`).
-- Assumes nothing.
use mathlib.Core.Path.{◌≡◌, sym, ap, ◌∙◌}
use mathlib.Core.List.{List}
use Prim.Native.Nat.{ℕ, ◌+◌, ◌-◌, ◌*◌, ◌^◌, ◌<◌}
use native.Mathlib.Nat.{sub-zero}
use native.Mathlib.Omega.{arith}
use lib.ListN.{length}
use Rattle.field_words.specs.Words.{AllCanonical}
use Rattle.check_applies.proofs.SpanLaws.{spanned}
use Rattle.check_row.specs.TestHelpers.{InTrace, back_after}
use Rattle.check_walk.proofs.WalkSteps.{start, skip, pass, fail, enter, leave, done}
use Rattle.check_walk.proofs.walk_tests.Goals as goal
use Rattle.check_walk.proofs.walk_tests.Goals.{then-applies+else-not-holds, else-applies}

-- a row that is walked lies in the trace
abbrev in_trace : {t : List ℕ} {i : ℕ} (k : ℕ) → AllCanonical t → length t ≡ 384 * k → k < 2 ^ 32 → i < 32 * k
    → InTrace t i
in_trace k canonical size few inside =
    record { k = k; canonical = canonical; size = size; few = few; inside = inside }

pub walk-init : goal.walk-init
walk-init c = (omega arith, omega arith, rw sub-zero (start _ _ _ _ _))

pub loop-constraint-init : goal.loop-constraint-init
loop-constraint-init c =
    let w = c.walk in
    let a = c.args in
    let s = spanned w.i c.span_of-span.ensures in (
      s.from_one,
      omega (arith, s.some),
      s.to_last,
      omega (arith, s.from_one),
      sym
          (enter a.steps.ready.table.now a.trace.now a.claim.now a.c a.k w.i _ _ s (32 * a.k) w.tests
          c.if-rows-i.false)
          ∙ w.invariant.2,
    )

pub holds-requires : goal.holds-requires
holds-requires c =
    let p = c.requires in (
      c.args.steps.ready.accepted,
      record {
        place = in_trace c.args.k p.0 p.1 p.3 c.if-rows-i.false;
        c = c.args.c;
        applied = sym c.applies.ensures ∙ c.if-applies.true;
      },
      c.forward_of-forward.ensures,
      c.back_after-back.ensures ∙ ap (λ T. back_after T c.args.trace.now c.walk.i) c.args.steps.same,
    )

pub loop-constraint-preserved : goal.loop-constraint-preserved
loop-constraint-preserved c =
    let l = c.loop-constraint in
    let i = c.walk.i in
    let a = c.args in
    let T = a.steps.ready.table.now in
    let n = 32 * a.k - (i + 1) in
    let applied = sym c.applies.ensures in
    elim c.if-applies.branch [
      | then-applies+else-not-holds w ↦ (
        omega arith,
        omega arith,
        l.invariant.2,
        omega arith,
        rw w.tests-is
            (sym
            (pass T a.trace.now a.claim.now a.c a.k i l.constraint n l.tests (omega arith)
            (applied ∙ w.if-applies.true) (sym w.holds.ensures ∙ w.if-not-holds.false))
            ∙ l.invariant.4),
      )
      | else-applies w ↦ (
        omega arith,
        omega arith,
        l.invariant.2,
        omega arith,
        rw w.tests-is
            (sym
            (skip T a.trace.now a.claim.now a.c a.k i l.constraint n l.tests (omega arith)
            (applied ∙ w.if-applies.false))
            ∙ l.invariant.4),
      )
    ]

pub walk-preserved : goal.walk-preserved
walk-preserved c =
    let l = c.loop-constraint in
    let i = c.walk.i in
    let a = c.args in (
      omega arith,
      omega arith,
      sym
          (leave a.steps.ready.table.now a.trace.now a.claim.now a.c a.k i _ _
          (spanned i c.span_of-span.ensures) l.constraint (32 * a.k - (i + 1)) l.tests
          c.loop-constraint-test.false (omega arith))
          ∙ l.invariant.4,
    )

pub returns-then-rows-i : goal.returns-then-rows-i
returns-then-rows-i c =
    let w = c.walk in
    let a = c.args in
    sym
    (done a.steps.ready.table.now a.trace.now a.claim.now a.c a.k w.i (32 * a.k - w.i) w.tests
    (omega arith))
    ∙ w.invariant.2

pub returns-then-not-holds : goal.returns-then-not-holds
returns-then-not-holds c =
    let l = c.loop-constraint in
    let i = c.walk.i in
    let a = c.args in
    sym
    (fail a.steps.ready.table.now a.trace.now a.claim.now a.c a.k i l.constraint (32 * a.k - (i + 1)) l.tests
    (omega arith)
    (sym c.applies.ensures ∙ c.if-applies.true)
    (sym c.holds.ensures ∙ c.if-not-holds.true))
    ∙ l.invariant.4
