-- From the equations of the 52 constraints to the middle states: every row of a trace that meets them holds what the
-- hash of the input read off gives there.
-- Assumes nothing.
use mathlib.Core.Path.{◌≡◌, sym, ap, ◌∙◌, subst}
use mathlib.Core.Bool.{false}
use mathlib.Core.List.{List}
use Prim.Native.Nat.{ℕ, zero, suc, ◌+◌, ◌*◌, ◌-◌, ◌/◌, ◌%◌, ◌≤◌, ◌<◌}
use native.Mathlib.Nat.{add-zero}
use native.Mathlib.Decide.{ℕ_discrete}
use native.Mathlib.Omega.{arith}
use borrow.Author.Tests.{eq-eqb, ne_eqb}
use lib.ListN.{length}
use Rattle.lists.specs.Lists.{cell}
use Rattle.field.specs.Field.{add, sub}
use Rattle.field.proofs.Ring.{add_sub, sub_self}
use Rattle.field_words.specs.Words.{AllCanonical}
use Rattle.table.specs.Table.{IsTable, initial_constant}
use Rattle.hash.specs.Hash.{plus, first_step, second_step, state_at, middle_state, final_state}
use Rattle.hash.proofs.States.{IsState, state_cell, same_state, cell_plus, plus_state, second_step_state}
use Rattle.hash.proofs.States.{state_at_zero, state_at_suc, final_state_state, initial_state}
use Rattle.trace.specs.Trace.{row}
use Rattle.numbers.specs.Numbers.{within}
use Rattle.check_constraints.specs.Constraints.{entering, forward, minus, back}
use Rattle.numbers.specs.Numbers.{first_row}
use Rattle.check_constraints.specs.ReadOff.{read_input}
use Rattle.check_constraints.proofs.OneRound.{minus_state, cell_minus, plus_minus}
use Rattle.check_constraints.proofs.RowCells.{row_state}
use Rattle.check_constraints.proofs.Equations.{Equations}
use Rattle.check_constraints.proofs.ForwardBack.{enters_not, entering_row, within_of, back_state}
use Rattle.check_constraints.proofs.ForwardBack.{forward_is, forward_enters, row_from_back}

module _ (T t claim : List ℕ) (c k : ℕ) (accepted : IsTable T) (size : length t ≡ 384 * k)
    (canonical : AllCanonical t) (q : Equations T t claim c k) where
  pub row_is_state : (i : ℕ) → i < 32 * k → IsState (row t i)
  row_is_state i l = row_state t canonical i (omega arith)

  K₀_state : IsState (initial_constant T)
  K₀_state = initial_state T accepted

  -- ---- the input of hash h as it is read off: for every hash, back of its first row less K_0
  pub start_read : (h : ℕ) → h % 3 ≡ 0 → read_input T t h ≡ row t (32 * (h / 3))
  unfolding read_input
  start_read h e = rw (eq-eqb (h % 3) 0 e)

  enter_read : (h : ℕ) → (h % 3 ≡ 0 → ⊥) → read_input T t h ≡ minus (back T t (first_row h)) (initial_constant T)
  unfolding read_input
  enter_read h e = rw (ne_eqb (h % 3) 0 e)

  pub read_state : (h : ℕ) → h < 3 * k → IsState (read_input T t h)
  read_state h l = go (ℕ_discrete (h % 3) 0)
    where
      go : Dec (h % 3 ≡ 0) → IsState (read_input T t h)
      go (yes e) = subst IsState (sym (start_read h e)) (row_is_state (32 * (h / 3)) (omega arith))
      go (no e) = subst IsState (sym (enter_read h e)) (minus_state _ _)

  read_back : (h : ℕ) → h < 3 * k → plus (read_input T t h) (initial_constant T) ≡ back T t (first_row h)
  read_back h l = go (ℕ_discrete (h % 3) 0)
    where
      go : Dec (h % 3 ≡ 0) → plus (read_input T t h) (initial_constant T) ≡ back T t (first_row h)
      go (yes e) =
          let i : 32 * (h / 3) + 1 ≡ first_row h = omega arith in
          ap (λ s. plus s (initial_constant T)) (start_read h e)
          ∙ same_state (plus_state _ _) (back_state T t (32 * (h / 3) + 1))
          (λ j b. cell_plus (row t (32 * (h / 3))) (initial_constant T) j b
          ∙ q.starts (32 * (h / 3)) j (omega arith) (omega arith) b)
          ∙ ap (back T t) i
      go (no e) =
          ap (λ s. plus s (initial_constant T)) (enter_read h e) ∙ plus_minus (back_state T t (first_row h)) K₀_state

  -- ---- the rounds: back of row `first_row h + j` is the state before round j
  module _ (h : ℕ) (l : h < 3 * k) where
    step_row : (j : ℕ) → j < 10 → row t (first_row h + j) ≡ first_step T j (back T t (first_row h + j))
    step_row j b = row_from_back T t h j b accepted (row_is_state (first_row h + j) (omega arith))

    goes_on : (j : ℕ) → j < 9 → second_step T j (row t (first_row h + j)) ≡ back T t (first_row h + j + 1)
    goes_on j b =
        same_state (second_step_state T j (row t (first_row h + j))) (back_state T t (first_row h + j + 1))
        (λ n m. ap (λ s. cell s n) (sym (forward_is T t h j (omega arith) not_entering))
        ∙ q.goes_on (first_row h + j) n (omega arith) (omega (arith, w)) (omega (arith, w)) not_entering m)
      where
        w : within (first_row h + j) ≡ 10 * (h % 3) + 1 + j
        w = within_of h j (omega arith)

        not_entering : entering (first_row h + j) ≡ false
        not_entering = enters_not (first_row h + j) (λ e. omega (arith, w)) (λ e. omega (arith, w))

    back_round : (j : ℕ) → j < 10 → back T t (first_row h + j) ≡ state_at T (read_input T t h) j
    unfolding middle_state
    back_round zero b =
        ap (back T t) (add-zero (first_row h)) ∙ sym (read_back h l) ∙ sym (state_at_zero T (read_input T t h))
    back_round (suc j) b =
        ap (back T t) next
        ∙ sym (goes_on j (omega arith))
        ∙ ap (second_step T j) (step_row j (omega arith) ∙ ap (first_step T j) (back_round j (omega arith)))
        ∙ sym (state_at_suc T (read_input T t h) j)
      where
        next : first_row h + suc j ≡ first_row h + j + 1
        next = omega arith

    -- each row of the hash is its middle state, and forward of the last is its final state
    pub row_round : (j : ℕ) → j < 10 → row t (first_row h + j) ≡ middle_state T (read_input T t h) j
    unfolding middle_state
    row_round j b = step_row j b ∙ ap (first_step T j) (back_round j b)

    pub last_round : second_step T 9 (row t (first_row h + 9)) ≡ final_state T (read_input T t h)
    unfolding final_state
    last_round = ap (second_step T 9) (row_round 9 (omega arith)) ∙ sym (state_at_suc T (read_input T t h) 9)

  -- ---- from hash to hash
  -- row 31 is the final state of the batch's third hash
  pub end_row : (b : ℕ) → b < k → row t (32 * b + 31) ≡ final_state T (read_input T t (3 * b + 2))
  end_row b l =
      same_state (row_is_state (32 * b + 31) (omega arith)) (final_state_state T (read_input T t h))
      (λ j m. sym (ends j m)
      ∙ ap (λ s. cell s j) (forward_is T t h 9 (omega arith) not_entering ∙ last_round h (omega arith)))
    where
      h : ℕ
      h = 3 * b + 2

      i : first_row h + 9 ≡ 32 * b + 30
      i = omega arith

      thirty : (32 * b + 30) % 32 ≡ 30
      thirty = omega arith

      not_entering : entering (first_row h + 9) ≡ false
      not_entering = ap entering i ∙ enters_not (32 * b + 30) (λ e. omega (arith, thirty)) (λ e. omega (arith, thirty))

      ends : (j : ℕ) → j < 12 → cell (forward T t (first_row h + 9)) j ≡ cell (row t (32 * b + 31)) j
      ends j m =
          let n : 32 * b + 30 + 1 ≡ 32 * b + 31 = omega arith in
          ap (λ x. cell (forward T t x) j) i
          ∙ q.ends (32 * b + 30) j (omega arith) (omega arith) m
          ∙ ap (λ x. cell (row t x) j) n

  -- columns 0 to 3 of an input are the output before it
  pub output_read : (h j : ℕ) → h + 1 < 3 * k → j < 4
      → cell (read_input T t (h + 1)) j ≡ cell (final_state T (read_input T t h)) j
  output_read h j l m = go (ℕ_discrete (h % 3) 2)
    where
      go : Dec (h % 3 ≡ 2) → cell (read_input T t (h + 1)) j ≡ cell (final_state T (read_input T t h)) j
      go (yes e) =
          let x : 32 * ((h + 1) / 3) ≡ 32 * (h / 3) + 31 + 1 = omega arith in
          let y : 3 * (h / 3) + 2 ≡ h = omega arith in
          ap (λ s. cell s j) (start_read (h + 1) (omega arith) ∙ ap (row t) x)
          ∙ sym (q.joins (32 * (h / 3) + 31) j (omega arith) (omega arith) (λ n. omega arith) m)
          ∙ ap (λ s. cell s j) (end_row (h / 3) (omega arith) ∙ ap (λ n. final_state T (read_input T t n)) y)
      go (no e) =
          let x : first_row (h + 1) ≡ first_row h + 9 + 1 = omega arith in
          let w = within_of h 9 (omega arith) in
          ap (λ s. cell s j) (enter_read (h + 1) (λ z. omega arith))
          ∙ cell_minus (back T t (first_row (h + 1))) (initial_constant T) j (omega arith)
          ∙ ap (λ n. sub n (cell (initial_constant T) j))
          (ap (λ i. cell (back T t i) j) x
          ∙ sym (q.output_kept (first_row h + 9) j (omega arith) (omega (arith, w)) (omega (arith, w)) m)
          ∙ forward_enters T t h 9 (omega arith) (entering_row h e) j m
          ∙ ap (λ s. add (cell s j) (cell (initial_constant T) j)) (last_round h (omega arith)))
          ∙ add_sub (cell (final_state T (read_input T t h)) j) (cell (initial_constant T) j)
          (state_cell (final_state_state T _) j) (state_cell K₀_state j)

  -- columns 8 to 11 are zeros
  pub zeros_read : (h j : ℕ) → h < 3 * k → j < 4 → cell (read_input T t h) (8 + j) ≡ 0
  zeros_read h j l m = go (ℕ_discrete (h % 3) 0)
    where
      go : Dec (h % 3 ≡ 0) → cell (read_input T t h) (8 + j) ≡ 0
      go (yes e) =
          ap (λ s. cell s (8 + j)) (start_read h e) ∙ q.zero_columns (32 * (h / 3)) j (omega arith) (omega arith) m
      go (no e) =
          let x : first_row h ≡ first_row (h - 1) + 9 + 1 = omega arith in
          ap (λ s. cell s (8 + j)) (enter_read h e)
          ∙ cell_minus (back T t (first_row h)) (initial_constant T) (8 + j) (omega arith)
          ∙ ap (λ n. sub n (cell (initial_constant T) (8 + j)))
          (ap (λ i. cell (back T t i) (8 + j)) x
          ∙ q.new_zeros (first_row (h - 1) + 9) j (omega arith) (entering_row (h - 1) (λ z. omega arith)) m)
          ∙ sub_self (cell (initial_constant T) (8 + j)) (state_cell K₀_state (8 + j))

  -- the claim is the output of the last hash of its c batches
  pub claim_read : (j : ℕ) → 1 ≤ c → c ≤ k → j < 4 → cell claim j ≡ cell (final_state T (read_input T t (3 * c - 1))) j
  claim_read j low high m =
      let x : 32 * (c - 1) + 31 + 1 ≡ 32 * c = omega arith in
      let y : 3 * (c - 1) + 2 ≡ 3 * c - 1 = omega arith in
      sym (q.claims (32 * (c - 1) + 31) j (omega arith) x m)
      ∙ ap (λ s. cell s j) (end_row (c - 1) (omega arith) ∙ ap (λ n. final_state T (read_input T t n)) y)
