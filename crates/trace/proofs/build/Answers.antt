-- `trace::build`: nothing is written before all tests have passed; then the trace is, and the state that comes back
-- begins with the output.
-- Assumes nothing.
use mathlib.Core.Path.{◌≡◌, refl, sym, ap, ◌∙◌}
use native.Mathlib.Omega.{arith}
use borrow.Author.Rules.{rules}
use lib.ListN.{length}
use Rattle.std.specs.Prelude.{Err}
use Rattle.std.proofs.lemmas.Result.{err_from_is_err_and}
use Rattle.refusals.proofs.Laws.{value_turned_back, value_returned, leaves_old, leaves_new}
use Rattle.table.proofs.Theorems.{ready_left_lem}
use Rattle.hash_chain.proofs.Answers.{four_cells}
use Rattle.trace.specs.Answers.{build_answer, build_leaves}
use Rattle.trace.proofs.Answers.{build_inputs}
use Rattle.trace.proofs.build.Goals as goal

pub returns-in_err-test_build : goal.returns-in_err-test_build
unfolding build_answer build_leaves
returns-in_err-test_build c =
    let p = err_from_is_err_and c.from_residual.result c.from_residual.ensures.1 in
    let tests = c.in_err-test_build.ensures.0 in
    (p.1 ∙ ap Err p.2 ∙ value_turned_back tests _ refl, leaves_old tests _ refl)

-- where the tests have passed, what they say of the table, the taps and the destination, and M is left made ready
pub invariant_of-ready : goal.invariant_of-ready
invariant_of-ready c =
    let tests = c.in_ok-test_build.ensures in
    let i = build_inputs _ _ _ (sym tests.0) in
    record { accepted = i.table; made = ready_left_lem _ _ i.table tests.1 }

pub write_hashes-last-requires : goal.write_hashes-last-requires
write_hashes-last-requires c =
    let i = build_inputs _ _ _ (sym c.in_ok-test_build.ensures.0) in
    (i.canonical, omega (arith, i.permitted.high), i.taps, i.room)

pub returns : goal.returns
unfolding build_answer build_leaves
returns c =
    let tests = c.in_ok-test_build.ensures.0 in
    let last = c.write_hashes-last in
    let twelve : length last.result ≡ 12 = search rules in (
      value_returned tests refl (four_cells last.result (omega arith) ∙ last.ensures.0),
      leaves_new tests _ refl last.ensures.1,
    )
