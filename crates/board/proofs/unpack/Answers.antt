-- `board::unpack`: nothing is written before all tests have passed; then the taps are, and the claim is returned.
-- Assumes nothing.
use mathlib.Core.Path.{◌≡◌, sym, ◌∙◌}
use mathlib.Core.List.{List}
use Prim.Native.Nat.{ℕ, ◌+◌, ◌*◌}
use native.Mathlib.Omega.{arith}
use Rattle.std.specs.Prelude.{Ok}
use Rattle.std.proofs.lemmas.Result.{err_from_is_err_and}
use Rattle.refusals.proofs.Laws.{value_turned_back, value_returned, leaves_old, leaves_new}
use Rattle.board.specs.Board.{batches_in, claim_in, taps_in, unpack_test, unpack_answer, unpack_leaves, IsBoard}
use Rattle.board.proofs.Answers.{unpack_accepted}
use Rattle.board.proofs.Round.{after_claim}
use Rattle.board.proofs.unpack.Goals as goal
use Rattle.refusals.specs.Answers.{Answer}

-- what the tests' acceptance says
board : (file : List ℕ) (size : ℕ) {t : Answer} → t ≡ unpack_test file size → t ≡ Ok tt
    → IsBoard file (batches_in file) × (size ≡ 12 * batches_in file + 4)
board file size e h = unpack_accepted _ _ (sym e ∙ h)

pub returns-in_err-test_unpack-clause-value : goal.returns-in_err-test_unpack-clause-value
unfolding unpack_answer
returns-in_err-test_unpack-clause-value c =
    let p = err_from_is_err_and c.from_residual.result c.from_residual.ensures.1 in
    rw (p.1, p.2) (value_turned_back c.test_unpack.ensures _ c.in_err-test_unpack.was)

pub returns-in_err-test_unpack-clause-destination_after : goal.returns-in_err-test_unpack-clause-destination_after
unfolding unpack_leaves
returns-in_err-test_unpack-clause-destination_after c = leaves_old c.test_unpack.ensures _ c.in_err-test_unpack.was

pub read_all-requires : goal.read_all-requires
read_all-requires c =
    let b = board _ _ c.test_unpack.ensures c.in_ok-test_unpack.was in
    (omega (arith, b.0.size), λ i h. (b.0.elements i (omega arith)).value)

pub read_all-requires-2 : goal.read_all-requires-2
read_all-requires-2 c =
    let b = board _ _ c.test_unpack.ensures c.in_ok-test_unpack.was in (
      omega (arith, b.0.size, b.1),
      λ i h. rw (after_claim i) at (b.0.elements (4 + i) (omega (arith, b.1))).value,
    )

pub returns-clause-value : goal.returns-clause-value
unfolding claim_in unpack_answer
returns-clause-value c = value_returned c.test_unpack.ensures c.in_ok-test_unpack.was c.read_all.ensures

pub returns-clause-destination_after : goal.returns-clause-destination_after
unfolding taps_in unpack_leaves
returns-clause-destination_after c =
    leaves_new c.test_unpack.ensures _ c.in_ok-test_unpack.was
    (c.read_all-2.ensures ∙ rw (board _ _ c.test_unpack.ensures c.in_ok-test_unpack.was).1)
