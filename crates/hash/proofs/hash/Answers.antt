-- `hash::hash`: words that pass the tests are two taps, and the answer is their final state; else it is the tests'
-- refusal.
-- Assumes nothing.
use mathlib.Core.Path.{◌≡◌, refl, sym, ap, ◌∙◌}
use borrow.Author.Rules.{rules}
use lib.ListN.{length}
use Rattle.std.specs.Prelude.{Err}
use Rattle.std.proofs.lemmas.Result.{err_from_is_err_and}
use Rattle.refusals.proofs.Laws.{value_turned_back, value_returned}
use Rattle.table.proofs.Theorems.{ready_left_lem}
use Rattle.hash.specs.Hash.{final_state}
use Rattle.hash.specs.Answers.{hash_answer}
use Rattle.hash.proofs.Answers.{hash_inputs}
use Rattle.hash.proofs.CodeStates.{canonical_state}
use Rattle.hash.proofs.CodeInput.{two_taps, two_taps_state}
use Rattle.hash.proofs.hash.Goals as goal

pub returns-in_err-test_hash : goal.returns-in_err-test_hash
unfolding hash_answer
returns-in_err-test_hash c =
    let p = err_from_is_err_and c.from_residual.result c.from_residual.ensures.1 in
    p.1 ∙ ap Err p.2 ∙ value_turned_back c.in_err-test_hash.ensures.0 _ refl

pub invariant_of-ready : goal.invariant_of-ready
invariant_of-ready c =
    let tests = c.in_ok-test_hash.ensures in
    let i = hash_inputs _ _ (sym tests.0) in
    record { accepted = i.table; made = ready_left_lem _ _ i.table tests.1 }

pub final_state-requires : goal.final_state-requires
final_state-requires c =
    let w = c.args.words in
    let eight : length w ≡ 8 = search rules in
    let i = hash_inputs _ _ (sym c.in_ok-test_hash.ensures.0) in
    canonical_state (two_taps w eight) (two_taps_state w eight i.canonical)

pub returns : goal.returns
unfolding hash_answer
returns c =
    let w = c.args.words in
    let eight : length w ≡ 8 = search rules in
    value_returned c.in_ok-test_hash.ensures.0 refl
    (c.final_state.ensures ∙ ap (final_state c.args.table.now) (two_taps w eight))
