-- `trace_read_off::read_off`: each refusal is the case of the definition that the tests before it left; the destination
-- is written after the last of the tests, and is the list that they accepted.
-- Assumes nothing.
use mathlib.Core.Path.{◌≡◌, refl, sym, ◌∙◌}
use mathlib.Core.List.{List}
use Prim.Native.Nat.{ℕ, ◌+◌, ◌*◌}
use native.Mathlib.Omega.{arith}
use borrow.Author.Tests.{eq-eqb, ne_eqb}
use lib.Dec.{eqb}
use lib.ListN.{length}
use Rattle.std.proofs.lemmas.Result.{err_from_is_err_and}
use Rattle.numbers.specs.Numbers.{trace_word_batches}
use Rattle.refusals.specs.declared.Refusal.TheVariants.{DestinationLength}
use Rattle.refusals.specs.Answers.{Answer, unless, with_value}
use Rattle.refusals.proofs.Laws.{unless_refused, unless_passed, after_refused, after_accepted}
use Rattle.table.proofs.Theorems.{ready_left_lem}
use Rattle.check_constraints.specs.Constraints.{tests}
use Rattle.check_trace.specs.Answers.{opening_test, trace_test}
use Rattle.check_trace.proofs.Answers.{opened_by, walked}
use Rattle.trace_read_off.specs.Answers.{read_off_test, read_off_answer}
use Rattle.trace_read_off.proofs.Answers.{read_off_inputs, turned_back, accepted, kept, read}
use Rattle.trace_read_off.proofs.read_off.Goals as goal
use Rattle.std.specs.Prelude.{Result, Ok}
use Rattle.refusals.specs.declared.Refusal.{Refusal}

-- the opening tests are passed, and the destination is to be tested
opened : (T t claim : List ℕ) (n size : ℕ) {a o : Answer} → let k = trace_word_batches (length t) in
    a ≡ opening_test T t n → a ≡ Ok tt
    → o ≡ unless (eqb size (12 * k + 4)) DestinationLength (trace_test T t claim n k)
    → o ≡ read_off_test T t claim n size
unfolding read_off_test
opened T t claim n size q a e = after_accepted q a e

-- the destination has room: what the last tests answer is the answer
answered : (T t claim : List ℕ) (n size : ℕ) {a : Answer} {o : Result ℕ Refusal}
    → let k = trace_word_batches (length t) in
    a ≡ opening_test T t n → a ≡ Ok tt → size ≡ 12 * k + 4
    → o ≡ with_value (trace_test T t claim n k) (length (tests k n))
    → o ≡ read_off_answer T t claim n size
unfolding read_off_answer
answered T t claim n size q a z e =
    walked _ _ e (opened T t claim n size q a (unless_passed _ (eq-eqb _ _ z) refl))

pub returns-in_err-test_opening : goal.returns-in_err-test_opening
unfolding read_off_test
returns-in_err-test_opening c =
    let p = err_from_is_err_and c.from_residual.result c.from_residual.ensures.1 in
    let tested = sym c.in_err-test_opening.was ∙ c.test_opening.ensures.0 in
    rw (p.1, p.2) (turned_back _ _ _ _ _ (after_refused _ tested refl))

pub returns-then-destination-k : goal.returns-then-destination-k
returns-then-destination-k c =
    let a = c.args in
    turned_back _ _ _ _ _
    (opened a.table.now a.trace.now a.claim a.c _ c.test_opening.ensures.0 c.in_ok-test_opening.was
    (unless_refused _ (ne_eqb _ _ c.if-destination-k.true) refl))

pub make_inverse_ready-requires : goal.make_inverse_ready-requires
make_inverse_ready-requires c = ((opened_by _ _ _ c.test_opening.ensures.0 c.in_ok-test_opening.was).0.table, refl)

pub invariant_of-ready : goal.invariant_of-ready
invariant_of-ready c =
    let s = opened_by _ _ _ c.test_opening.ensures.0 c.in_ok-test_opening.was in
    record { accepted = s.0.table; made = ready_left_lem _ _ s.0.table c.test_opening.ensures.1 }

pub test_trace-requires : goal.test_trace-requires
test_trace-requires c =
    let s = opened_by _ _ _ c.test_opening.ensures.0 c.in_ok-test_opening.was in
    (s.0.size, s.0.high, s.1)

pub returns-in_err-tests : goal.returns-in_err-tests
returns-in_err-tests c =
    let a = c.args in
    let p = err_from_is_err_and c.from_residual-in_err-tests.result c.from_residual-in_err-tests.ensures.1 in
    let q = answered a.table.now a.trace.now a.claim a.c (length a.destination.now) c.test_opening.ensures.0
    c.in_ok-test_opening.was c.if-destination-k.false c.test_trace.ensures in
    rw (p.1, p.2)
    (sym c.in_err-tests.was ∙ q, kept a.table.now a.trace.now a.claim a.destination.now a.c q c.in_err-tests.was)

pub write_taps-requires : goal.write_taps-requires
write_taps-requires c =
    let a = c.args in
    let q = answered a.table.now a.trace.now a.claim a.c (length a.destination.now) c.test_opening.ensures.0
    c.in_ok-test_opening.was c.if-destination-k.false c.test_trace.ensures in
    let passes = accepted a.table.now a.trace.now a.claim a.destination.now a.c q c.in_ok-tests.was in
    let i = read_off_inputs _ _ _ _ _ passes in
    let o = i.1.opening in (
      i.1.canonical,
      o.size,
      o.permitted.low,
      omega (arith, o.permitted.high),
      i.0,
    )

pub returns : goal.returns
returns c =
    let a = c.args in
    let q = answered a.table.now a.trace.now a.claim a.c (length a.destination.now) c.test_opening.ensures.0
    c.in_ok-test_opening.was c.if-destination-k.false c.test_trace.ensures in (
      sym c.in_ok-tests.was ∙ q,
      read a.table.now a.trace.now a.claim a.destination.now a.c q c.in_ok-tests.was c.write_taps.ensures,
    )
