-- `hash_chain::chain`: for a list that passes the tests, the state after 3k hashes begins with the chain's output; else
-- the answer is the tests' refusal.
-- Assumes nothing.
use mathlib.Core.Path.{◌≡◌, refl, sym, ap, ◌∙◌}
use native.Mathlib.Omega.{arith}
use borrow.Author.Rules.{rules}
use lib.ListN.{length}
use Rattle.std.specs.Prelude.{Err}
use Rattle.std.proofs.lemmas.Result.{err_from_is_err_and}
use Rattle.refusals.proofs.Laws.{value_turned_back, value_returned}
use Rattle.table.proofs.Theorems.{ready_left_lem}
use Rattle.hash.specs.Hash.{chain as chain_of}
use Rattle.hash_chain.specs.Answers.{chain_answer}
use Rattle.hash_chain.proofs.Answers.{chain_inputs, four_cells}
use Rattle.hash_chain.proofs.chain.Goals as goal

pub returns-in_err-test_chain : goal.returns-in_err-test_chain
unfolding chain_answer
returns-in_err-test_chain c =
    let p = err_from_is_err_and c.from_residual.result c.from_residual.ensures.1 in
    p.1 ∙ ap Err p.2 ∙ value_turned_back c.in_err-test_chain.ensures.0 _ refl

pub invariant_of-ready : goal.invariant_of-ready
invariant_of-ready c =
    let tests = c.in_ok-test_chain.ensures in
    let i = chain_inputs _ _ (sym tests.0) in
    record { accepted = i.table; made = ready_left_lem _ _ i.table tests.1 }

pub last_state-last-requires : goal.last_state-last-requires
last_state-last-requires c =
    let i = chain_inputs _ _ (sym c.in_ok-test_chain.ensures.0) in
    (omega (arith, i.permitted.high), omega (arith, i.size), i.canonical)

pub returns : goal.returns
unfolding chain_answer chain_of
returns c =
    let last = c.last_state-last in
    let twelve : length last.result ≡ 12 = search rules in
    value_returned c.in_ok-test_chain.ensures.0 refl (four_cells last.result (omega arith) ∙ last.ensures)
