-- `board::test_pack`: each return is the case of the definition that the tests before it left.
-- Assumes nothing.
use mathlib.Core.Path.{◌≡◌}
use native.Mathlib.Omega.{arith}
use borrow.Author.Tests.{eq-eqb, ne_eqb}
use lib.ListN.{length}
use Rattle.std.specs.Prelude.{Some, None}
use Rattle.std.proofs.lemmas.Result.{err_from_is_err_and}
use Rattle.numbers.proofs.Laws.{tap_permitted, tap_refused}
use Rattle.refusals.proofs.Laws.{refused_same}
use Rattle.board.specs.Board.{most_file_batches, pack_test}
use Rattle.board.proofs.test_pack.Goals as goal

pub returns-in_err-k : goal.returns-in_err-k
unfolding pack_test
returns-in_err-k c =
    let none : c.tap_batches.result ≡ None = grind arith in
    let p = err_from_is_err_and c.from_residual.result c.from_residual.ensures.1 in
    rw (
      p.1,
      p.2,
      refused_same (rw none at c.in_err-k.ensures.value),
      tap_refused most_file_batches (length c.args.taps.now) c.tap_batches.ensures none,
    )

pub returns-then-size-k : goal.returns-then-size-k
unfolding pack_test
returns-then-size-k c =
    let some : c.tap_batches.result ≡ Some c.in_ok-k.k = grind arith in
    let k = tap_permitted most_file_batches (length c.args.taps.now) c.tap_batches.ensures some in
    rw (k.0, k.1, ne_eqb _ _ c.if-size-k.true)

pub returns-in-Some : goal.returns-in-Some
unfolding pack_test
returns-in-Some c =
    let some : c.tap_batches.result ≡ Some c.in_ok-k.k = grind arith in
    let k = tap_permitted most_file_batches (length c.args.taps.now) c.tap_batches.ensures some in
    let bad = c.in-Some.ensures in
    rw (k.0, k.1, eq-eqb _ _ c.if-size-k.false, bad.0, bad.1)

pub returns-in-Some-first_bad : goal.returns-in-Some-first_bad
unfolding pack_test
returns-in-Some-first_bad c =
    let some : c.tap_batches.result ≡ Some c.in_ok-k.k = grind arith in
    let k = tap_permitted most_file_batches (length c.args.taps.now) c.tap_batches.ensures some in
    let bad = c.in-Some-first_bad.ensures in
    rw (k.0, k.1, eq-eqb _ _ c.if-size-k.false, c.in_default.ensures, bad.0, bad.1)

pub returns : goal.returns
unfolding pack_test
returns c =
    let some : c.tap_batches.result ≡ Some c.in_ok-k.k = grind arith in
    let k = tap_permitted most_file_batches (length c.args.taps.now) c.tap_batches.ensures some in
    rw (k.0, k.1, eq-eqb _ _ c.if-size-k.false, c.in_default.ensures, c.in_default-first_bad.ensures)
