-- `board_short::test_pack`: each return is the case of the definition that the tests before it left.
-- Assumes nothing.
use mathlib.Core.Path.{◌≡◌, sym, ap, ◌∙◌}
use native.Mathlib.Omega.{arith}
use borrow.Author.Tests.{eq-eqb, ne_eqb}
use lib.Dec.{eqb}
use lib.ListN.{length}
use Rattle.std.specs.Prelude.{Some, None}
use Rattle.std.proofs.lemmas.Result.{err_from_is_err_and}
use Rattle.numbers.specs.Numbers.{most_batches}
use Rattle.numbers.proofs.Laws.{tap_permitted, tap_refused}
use Rattle.refusals.proofs.Laws.{refused_same}
use Rattle.board_short_words.proofs.Words.{needed_most, none_bad}
use Rattle.board_short.specs.ShortBoard.{pack_short_test}
use Rattle.board_short.proofs.Files.{size_parts}
use Rattle.board_short.proofs.test_pack.Goals as goal

pub returns-in_err-ok_or : goal.returns-in_err-ok_or
unfolding pack_short_test
returns-in_err-ok_or c =
    let none : c.tap_batches.result ≡ None = grind arith in
    let p = err_from_is_err_and c.from_residual.result c.from_residual.ensures.1 in
    rw (
      p.1,
      p.2,
      refused_same (rw none at c.in_err-ok_or.ensures.value),
      tap_refused most_batches (length c.args.taps.now) c.tap_batches.ensures none,
    )

pub overflow_add-of_claim : goal.overflow_add-of_claim
overflow_add-of_claim c = omega (arith, c.measure-of_claim.ensures.0, needed_most c.args.claim)

pub overflow_add-of_claim-2 : goal.overflow_add-of_claim-2
overflow_add-of_claim-2 c =
    omega (
      arith,
      c.measure-of_claim.ensures.0,
      needed_most c.args.claim,
      c.measure-of_taps.ensures.0,
      needed_most c.args.taps.now,
    )

pub returns-then-size-of_claim : goal.returns-then-size-of_claim
unfolding pack_short_test
returns-then-size-of_claim c =
    let taps = c.args.taps.now in
    let some : c.tap_batches.result ≡ Some c.in_ok-ok_or.field-0 = grind arith in
    let parts = size_parts taps c.args.claim _ _ c.measure-of_claim.ensures.0 c.measure-of_taps.ensures.0 in
    rw (
      (tap_permitted most_batches (length taps) c.tap_batches.ensures some).0,
      ne_eqb _ _ (λ e. c.if-size-of_claim.true (e ∙ sym parts)),
    )

pub returns-in-Some : goal.returns-in-Some
unfolding pack_short_test
returns-in-Some c =
    let taps = c.args.taps.now in
    let some : c.tap_batches.result ≡ Some c.in_ok-ok_or.field-0 = grind arith in
    let parts = size_parts taps c.args.claim _ _ c.measure-of_claim.ensures.0 c.measure-of_taps.ensures.0 in
    rw (
      (tap_permitted most_batches (length taps) c.tap_batches.ensures some).0,
      eq-eqb _ _ (c.if-size-of_claim.false ∙ parts),
      c.in-Some.ensures.0,
      c.in-Some.ensures.1,
    )

pub returns-in-Some-first_bad : goal.returns-in-Some-first_bad
unfolding pack_short_test
returns-in-Some-first_bad c =
    let taps = c.args.taps.now in
    let some : c.tap_batches.result ≡ Some c.in_ok-ok_or.field-0 = grind arith in
    let parts = size_parts taps c.args.claim _ _ c.measure-of_claim.ensures.0 c.measure-of_taps.ensures.0 in
    rw (
      (tap_permitted most_batches (length taps) c.tap_batches.ensures some).0,
      eq-eqb _ _ (c.if-size-of_claim.false ∙ parts),
      c.in_default.ensures,
      c.in-Some-first_bad.ensures.0,
      c.in-Some-first_bad.ensures.1,
    )

pub returns-in_default-first_bad : goal.returns-in_default-first_bad
unfolding pack_short_test
returns-in_default-first_bad c =
    let taps = c.args.taps.now in
    let some : c.tap_batches.result ≡ Some c.in_ok-ok_or.field-0 = grind arith in
    let parts = size_parts taps c.args.claim _ _ c.measure-of_claim.ensures.0 c.measure-of_taps.ensures.0 in
    rw (
      (tap_permitted most_batches (length taps) c.tap_batches.ensures some).0,
      eq-eqb _ _ (c.if-size-of_claim.false ∙ parts),
      c.in_default.ensures,
      c.in_default-first_bad.ensures,
    )

pub returns-else-of_taps-ne0 : goal.returns-else-of_taps-ne0
unfolding pack_short_test
returns-else-of_taps-ne0 c =
    let taps = c.args.taps.now in
    let some : c.tap_batches.result ≡ Some c.in_ok-ok_or.field-0 = grind arith in
    let parts = size_parts taps c.args.claim _ _ c.measure-of_claim.ensures.0 c.measure-of_taps.ensures.0 in
    let tested = ap (λ n. eqb n 0) c.measure-of_taps.ensures.1 ∙ none_bad taps in
    rw (
      (tap_permitted most_batches (length taps) c.tap_batches.ensures some).0,
      eq-eqb _ _ (c.if-size-of_claim.false ∙ parts),
      c.in_default.ensures,
      sym tested ∙ eq-eqb _ _ c.if-of_taps-ne0.false,
    )
