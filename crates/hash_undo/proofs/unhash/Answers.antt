-- `hash_undo::unhash`: cells that pass the tests of Hash are a state, whose input is found; the answer is its two taps,
-- or 16 where it does not end in zeros; else it is the tests' refusal.
-- Assumes nothing.
use mathlib.Core.Path.{◌≡◌, sym, ap₂, ◌∙◌}
use mathlib.Core.List.{List}
use Prim.Native.Nat.{ℕ}
use borrow.Author.Rules.{rules}
use lib.ListN.{length}
use Rattle.std.proofs.lemmas.Result.{err_from_is_err_and}
use Rattle.field_words.specs.Words.{AllCanonical}
use Rattle.table.specs.Table.{initial_constant}
use Rattle.table.proofs.Theorems.{left_size}
use Rattle.hash.proofs.States.{IsState, state_cell}
use Rattle.hash.proofs.CodeStates.{canonical_state}
use Rattle.hash.proofs.Answers.{hash_inputs}
use Rattle.check_constraints.specs.Constraints.{minus}
use Rattle.hash_undo.specs.Unhash.{rounds_undone, input_before}
use Rattle.hash_undo.proofs.Rounds.{rounds_undone_state}
use Rattle.hash_undo.proofs.Answers.{unhash_turned_back, unhash_none, unhash_found}
use Rattle.hash_undo.proofs.unhash.Goals as goal

input-is : (T s : List ℕ) {x k y : List ℕ} → y ≡ minus x k → k ≡ initial_constant T → x ≡ rounds_undone T 10 s
    → y ≡ input_before T s
unfolding input_before
input-is T s e k f = e ∙ ap₂ minus f k

pub returns-in_err-test_hash : goal.returns-in_err-test_hash
returns-in_err-test_hash c =
    let p = err_from_is_err_and c.from_residual.result c.from_residual.ensures.1 in
    rw (p.1, p.2) (unhash_turned_back _ _ c.test_hash.ensures.0 c.in_err-test_hash.was)

-- the cells that passed are a state
given : (cells : List ℕ) → length cells ≡ 12 → AllCanonical cells → IsState cells
given cells size a = record { size = size; canonical = a }

pub make_inverse_ready-requires : goal.make_inverse_ready-requires
make_inverse_ready-requires c =
    let i = hash_inputs _ _ (sym c.test_hash.ensures.0 ∙ c.in_ok-test_hash.was) in
    (i.table, left_size _ _ i.table c.test_hash.ensures.1)

pub invariant_of-back : goal.invariant_of-back
invariant_of-back c =
    let i = hash_inputs _ _ (sym c.test_hash.ensures.0 ∙ c.in_ok-test_hash.was) in
    record { accepted = i.table; made = c.make_inverse_ready.ensures }

pub undo_rounds-state-requires : goal.undo_rounds-state-requires
undo_rounds-state-requires c =
    let i = hash_inputs _ _ (sym c.test_hash.ensures.0 ∙ c.in_ok-test_hash.was) in
    let twelve : length c.args.cells ≡ 12 = search rules in
    λ j l. state_cell (given _ twelve i.canonical) j

pub minus-input-requires : goal.minus-input-requires
minus-input-requires c =
    let i = hash_inputs _ _ (sym c.test_hash.ensures.0 ∙ c.in_ok-test_hash.was) in
    let twelve : length c.args.cells ≡ 12 = search rules in
    let state = canonical_state c.undo_rounds-state.ensures (rounds_undone_state _ 10 (given _ twelve i.canonical)) in
    (state, c.initial_constant.ensures.1, c.initial_constant.ensures.2)

pub returns-then-not-ends_in_zeros : goal.returns-then-not-ends_in_zeros
returns-then-not-ends_in_zeros c =
    unhash_none _ _ c.test_hash.ensures.0 c.in_ok-test_hash.was
    (input-is _ _ c.minus-input.ensures.0 c.initial_constant.ensures.0 c.undo_rounds-state.ensures)
    (sym c.ends_in_zeros.ensures ∙ c.if-not-ends_in_zeros.true)

pub returns : goal.returns
returns c =
    unhash_found _ _ c.test_hash.ensures.0 c.in_ok-test_hash.was
    (input-is _ _ c.minus-input.ensures.0 c.initial_constant.ensures.0 c.undo_rounds-state.ensures)
    (sym c.ends_in_zeros.ensures ∙ c.if-not-ends_in_zeros.false)
