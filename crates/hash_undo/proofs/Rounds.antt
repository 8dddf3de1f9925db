-- The rounds there and back, on states of twelve canonical cells: a round undone is undone by the round, and the other
-- way round; so are all ten, and the addition of K_0. The one needs M times the stored inverse, the other the stored
-- inverse times M.
-- Assumes nothing.
use mathlib.Core.Path.{◌≡◌, refl, ap, ◌∙◌}
use mathlib.Core.List.{List}
use Prim.Native.Nat.{ℕ, zero, suc, ◌≤◌, ◌<◌}
use native.Mathlib.Omega.{arith}
use Rattle.table.specs.Table.{IsTable, initial_constant}
use Rattle.hash.specs.Hash.{roots, cubes, mix, first_step, second_step, state_at, final_state}
use Rattle.hash.proofs.States.{IsState, roots_state, cubes_state, times_state, first_step_state, state_at_state}
use Rattle.hash.proofs.States.{initial_state, second_constant_state}
use Rattle.check_constraints.specs.Constraints.{minus, back_step}
use Rattle.check_constraints.proofs.OneRound.{minus_state, minus_plus, plus_minus, cubes_roots, roots_cubes}
use Rattle.check_constraints.proofs.OneRound.{step_undone, undone_step, back_step_state, back_first, first_back}
use Rattle.hash_undo.specs.Unhash.{second_step_undone, round_undone, rounds_undone, input_before}

-- ---- states
pub second_step_undone_state : (T : List ℕ) (r : ℕ) (s : List ℕ) → IsState (second_step_undone T r s)
unfolding second_step_undone
second_step_undone_state T r s = roots_state _

pub round_undone_state : (T : List ℕ) (r : ℕ) (s : List ℕ) → IsState (round_undone T r s)
unfolding round_undone
round_undone_state T r s = back_step_state T r _

pub rounds_undone_state : (T : List ℕ) (n : ℕ) {s : List ℕ} → IsState s → IsState (rounds_undone T n s)
unfolding rounds_undone
rounds_undone_state T zero p = p
rounds_undone_state T (suc r) {s} p = rounds_undone_state T r (round_undone_state T r s)

pub input_before_state : (T s : List ℕ) → IsState (input_before T s)
unfolding input_before
input_before_state T s = minus_state _ _

module _ (T : List ℕ) (accepted : IsTable T) where
  -- ---- one round
  module _ (r : ℕ) (h : r < 10) where
    second_undone : {s : List ℕ} → IsState s → second_step_undone T r (second_step T r s) ≡ s
    unfolding second_step_undone second_step mix
    second_undone {s} p =
        step_undone T accepted (second_constant_state T accepted r h) cubes roots (cubes_state s) (roots_cubes p)

    undone_second : {x : List ℕ} → IsState x → second_step T r (second_step_undone T r x) ≡ x
    unfolding second_step_undone second_step mix
    undone_second {x} p =
        undone_step T accepted (second_constant_state T accepted r h) cubes roots p (cubes_roots (times_state _ _))

    round_undone_lem : {s : List ℕ} → IsState s → round_undone T r (second_step T r (first_step T r s)) ≡ s
    unfolding round_undone
    round_undone_lem {s} p =
        ap (back_step T r) (second_undone (first_step_state T r s)) ∙ back_first T accepted r h p

    undone_round : {x : List ℕ} → IsState x → second_step T r (first_step T r (round_undone T r x)) ≡ x
    unfolding round_undone
    undone_round {x} p =
        ap (second_step T r) (first_back T accepted r h (second_step_undone_state T r x)) ∙ undone_second p

  -- ---- the first n rounds, from the input s
  rounds_undone_lem : (s : List ℕ) (n : ℕ) → n ≤ 10 → rounds_undone T n (state_at T s n) ≡ state_at T s 0
  unfolding rounds_undone state_at
  rounds_undone_lem s zero h = refl
  rounds_undone_lem s (suc r) h =
      ap (rounds_undone T r) (round_undone_lem r (omega arith) (state_at_state T s r))
      ∙ rounds_undone_lem s r (omega arith)

  undone_rounds : (s : List ℕ) (n : ℕ) → n ≤ 10 → {x : List ℕ} → IsState x → state_at T s 0 ≡ rounds_undone T n x
      → state_at T s n ≡ x
  unfolding rounds_undone state_at
  undone_rounds s zero h p e = e
  undone_rounds s (suc r) h {x} p e =
      ap (λ y. second_step T r (first_step T r y)) (undone_rounds s r (omega arith) (round_undone_state T r x) e)
      ∙ undone_round r (omega arith) p

  -- ---- the whole hash
  pub input_back : {s : List ℕ} → IsState s → input_before T (final_state T s) ≡ s
  unfolding input_before final_state state_at
  input_back {s} p =
      ap (λ x. minus x (initial_constant T)) (rounds_undone_lem s 10 (omega arith))
      ∙ minus_plus p (initial_state T accepted)

  pub final_back : {x : List ℕ} → IsState x → final_state T (input_before T x) ≡ x
  unfolding input_before final_state state_at
  final_back {x} p =
      undone_rounds (input_before T x) 10 (omega arith) p
      (plus_minus (rounds_undone_state T 10 p) (initial_state T accepted))
