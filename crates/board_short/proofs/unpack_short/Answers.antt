-- `board_short::unpack_short`: nothing is written before all tests have passed; then the taps are, and the claim is
-- returned.
-- Assumes nothing.
use mathlib.Core.Path.{sym, ap, ◌∙◌}
use Prim.Native.Nat.{◌+◌}
use native.Mathlib.Omega.{arith}
use lib.ListN.{length}
use Rattle.std.proofs.lemmas.Result.{err_from_is_err_and}
use Rattle.refusals.proofs.Laws.{value_turned_back, value_returned, leaves_old, leaves_new}
use Rattle.board_short_read.specs.Reading.{first_word, shorts_at}
use Rattle.board_short_read.proofs.Tests.{accepts, first_add}
use Rattle.board_short.specs.ShortBoard.{short_claim_in, short_taps_in, unpack_short_answer, unpack_short_leaves}
use Rattle.board_short.proofs.Answers.{unpack_accepted}
use Rattle.board_short.proofs.unpack_short.Goals as goal

pub returns-in_err-test_unpack-clause-value : goal.returns-in_err-test_unpack-clause-value
unfolding unpack_short_answer
returns-in_err-test_unpack-clause-value c =
    let p = err_from_is_err_and c.from_residual.result c.from_residual.ensures.1 in
    rw (p.1, p.2) (value_turned_back c.test_unpack.ensures _ c.in_err-test_unpack.was)

pub returns-in_err-test_unpack-clause-destination_after : goal.returns-in_err-test_unpack-clause-destination_after
unfolding unpack_short_leaves
returns-in_err-test_unpack-clause-destination_after c = leaves_old c.test_unpack.ensures _ c.in_err-test_unpack.was

pub read_all-after_claim-requires : goal.read_all-after_claim-requires
read_all-after_claim-requires c = λ i h.
    let board = unpack_accepted _ _ (sym c.test_unpack.ensures ∙ c.in_ok-test_unpack.was) in
    accepts _ _ (board.0.elements i (omega arith))

pub read_all-requires : goal.read_all-requires
read_all-requires c = λ i h.
    let board = unpack_accepted _ _ (sym c.test_unpack.ensures ∙ c.in_ok-test_unpack.was) in
    let at = c.read_all-after_claim.ensures.value in
    let next = ap (λ j. first_word c.args.file.now j i) at ∙ sym (first_add _ 1 4 i) in
    rw next (accepts _ _ (board.0.elements (4 + i) (omega (arith, board.1))))

pub returns-clause-value : goal.returns-clause-value
unfolding short_claim_in unpack_short_answer
returns-clause-value c =
    value_returned c.test_unpack.ensures c.in_ok-test_unpack.was c.read_all-after_claim.ensures.destination_after

pub returns-clause-destination_after : goal.returns-clause-destination_after
unfolding short_taps_in unpack_short_leaves
returns-clause-destination_after c =
    let board = unpack_accepted _ _ (sym c.test_unpack.ensures ∙ c.in_ok-test_unpack.was) in
    let file = c.args.file.now in
    let room = length c.args.destination.now in
    let at = c.read_all-after_claim.ensures.value in
    let read = c.read_all.ensures.destination_after ∙ ap (λ j. shorts_at file j room) at in
    leaves_new c.test_unpack.ensures _ c.in_ok-test_unpack.was
    (read ∙ ap (shorts_at file (first_word file 1 4)) board.1)
