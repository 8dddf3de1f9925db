-- The section 3.1 trace of a list of canonical taps, with the output of the first 3c + 1 as the claim, meets the
-- equations of the 52 constraints, and the list is read off it again.
-- Assumes nothing.
use mathlib.Core.Path.{◌≡◌, refl, sym, ap, ◌∙◌}
use mathlib.Core.Bool.{Bool, true, false}
use mathlib.Core.List.{List}
use Prim.Native.Nat.{ℕ, suc, ◌+◌, ◌*◌, ◌-◌, ◌/◌, ◌%◌, ◌≤◌, ◌<◌}
use native.Mathlib.Nat.{add-zero, zero-add}
use native.Mathlib.Decide.{ℕ_discrete, dec_lt}
use native.Mathlib.Omega.{arith}
use borrow.Author.Tests.{eq-eqb, ne_eqb}
use lib.ListN.{length}
use Rattle.lists.specs.Lists.{cell}
use Rattle.field.specs.Field.{P, add}
use Rattle.field_words.specs.Words.{AllCanonical}
use Rattle.table.specs.Table.{IsTable, initial_constant}
use Rattle.hash.specs.Hash.{plus, second_step, chain, state_at, middle_state, final_state}
use Rattle.hash.proofs.States.{state_cell, same_cells, cell_plus, state_at_zero}
use Rattle.hash.proofs.States.{state_at_suc, state_at_state, initial_state}
use Rattle.hash.proofs.Inputs.{cell_take, cell_tap, output_zero}
use Rattle.trace.specs.Trace.{hash_input, trace_row, trace}
use Rattle.trace.proofs.RowKinds.{row_start, row_middle, row_end}
use Rattle.trace.proofs.TraceCells.{next_output, last_row_output, hash_input_state}
use Rattle.trace.proofs.TraceCells.{input_output, input_next_tap, input_zeros}
use Rattle.trace.specs.Trace.{row}
use Rattle.numbers.specs.Numbers.{within}
use Rattle.check_constraints.specs.Constraints.{entering, forward, minus, back_step, back}
use Rattle.numbers.specs.Numbers.{first_row}
use Rattle.check_constraints.specs.ReadOff.{read_input, read_taps}
use Rattle.check_constraints.proofs.OneRound.{back_first, minus_plus}
use Rattle.check_constraints.proofs.Equations.{Equations}
use Rattle.check_constraints.proofs.ForwardBack.{enters_not, entering_hash, round_hash, back_is, forward_is}
use Rattle.check_constraints.proofs.ForwardBack.{forward_enters}
use Rattle.check_exact.proofs.ReadList.{length_read, first_tap_read, next_tap_read, row_of_trace}

module _ (T w : List ℕ) (k : ℕ) (accepted : IsTable T) (size : length w ≡ 12 * k + 4) (canonical : AllCanonical w) where
  K₀_cell : (j : ℕ) → cell (initial_constant T) j < P
  K₀_cell j = state_cell (initial_state T accepted) j

  -- ---- the rows of the trace, and what goes forward and back from them
  start_row : (b : ℕ) → b < k → row (trace T w k) (32 * b) ≡ hash_input T w (3 * b)
  start_row b l = row_of_trace T w k size canonical (32 * b) (omega arith) ∙ row_start T w b

  pub end_row : (b : ℕ) → b < k → row (trace T w k) (32 * b + 31) ≡ final_state T (hash_input T w (3 * b + 2))
  end_row b l = row_of_trace T w k size canonical (32 * b + 31) (omega arith) ∙ row_end T w b

  module _ (h : ℕ) (l : h < 3 * k) where
    middle_row : (j : ℕ) → j < 10 → row (trace T w k) (first_row h + j) ≡ middle_state T (hash_input T w h) j
    middle_row j m = row_of_trace T w k size canonical (first_row h + j) (omega arith) ∙ row_middle T w h j m

    back_round : (j : ℕ) → j < 10 → back T (trace T w k) (first_row h + j) ≡ state_at T (hash_input T w h) j
    unfolding middle_state
    back_round j m =
        back_is T (trace T w k) h j m
        ∙ ap (back_step T j) (middle_row j m)
        ∙ back_first T accepted j m (state_at_state T (hash_input T w h) j)

    second_round : (j : ℕ) → j < 10
        → second_step T j (row (trace T w k) (first_row h + j)) ≡ state_at T (hash_input T w h) (suc j)
    second_round j m = ap (second_step T j) (middle_row j m) ∙ sym (state_at_suc T (hash_input T w h) j)

    -- back of the first row is the input plus K_0
    back_start : back T (trace T w k) (first_row h) ≡ plus (hash_input T w h) (initial_constant T)
    back_start =
        ap (back T (trace T w k)) (sym (add-zero (first_row h)))
        ∙ back_round 0 (omega arith)
        ∙ state_at_zero T (hash_input T w h)

  -- ---- every input is read off
  pub input_back : (h : ℕ) → h < 3 * k → read_input T (trace T w k) h ≡ hash_input T w h
  unfolding read_input
  input_back h l = go (ℕ_discrete (h % 3) 0)
    where
      go : Dec (h % 3 ≡ 0) → read_input T (trace T w k) h ≡ hash_input T w h
      go (yes e) =
          let x : 3 * (h / 3) ≡ h = omega arith in
          rw (eq-eqb (h % 3) 0 e) (start_row (h / 3) (omega arith) ∙ ap (hash_input T w) x)
      go (no e) =
          rw (ne_eqb (h % 3) 0 e)
          (ap (λ s. minus s (initial_constant T)) (back_start h l)
          ∙ minus_plus (hash_input_state T w k size canonical h l) (initial_state T accepted))

  pub reads_back : 1 ≤ k → read_taps T (trace T w k) k ≡ w
  reads_back some = same_cells (12 * k + 4) (read_taps T (trace T w k) k) w (length_read T (trace T w k) k) size word
    where
      word : (n : ℕ) → n < 12 * k + 4 → cell (read_taps T (trace T w k) k) n ≡ cell w n
      word n l = go (dec_lt n 4)
        where
          go : Dec (n < 4) → cell (read_taps T (trace T w k) k) n ≡ cell w n
          go (yes m) =
              first_tap_read T (trace T w k) k n m
              ∙ ap (λ s. cell s n) (start_row 0 some)
              ∙ input_output T w k size canonical 0 n (omega arith) m
              ∙ ap (λ s. cell s n) (output_zero T w)
              ∙ cell_tap w 0 n m
              ∙ ap (cell w) (zero-add n)
          go (no m) =
              let e : 4 * (n / 4 - 1 + 1) + n % 4 ≡ n = omega arith in
              ap (cell (read_taps T (trace T w k) k)) (sym e)
              ∙ next_tap_read T (trace T w k) k (n / 4 - 1) (n % 4) (omega arith) (omega arith)
              ∙ ap (λ s. cell s (4 + n % 4)) (input_back (n / 4 - 1) (omega arith))
              ∙ input_next_tap T w k size canonical (n / 4 - 1) (n % 4) (omega arith) (omega arith)
              ∙ cell_tap w (n / 4 - 1 + 1) (n % 4) (omega arith)
              ∙ ap (cell w) e

  -- ---- the equations
  next_output_cell : (h j : ℕ) → h + 1 < 3 * k → j < 4
      → cell (hash_input T w (h + 1)) j ≡ cell (final_state T (hash_input T w h)) j
  next_output_cell h j l m =
      input_output T w k size canonical (h + 1) j l m
      ∙ ap (λ s. cell s j) (next_output T w h)
      ∙ cell_take (final_state T (hash_input T w h)) j m

  zero_columns : (i j : ℕ) → i < 32 * k → within i ≡ 0 → j < 4 → cell (row (trace T w k) i) (8 + j) ≡ 0
  zero_columns i j l r m =
      let e : i ≡ 32 * (i / 32) = omega arith in
      ap (λ s. cell s (8 + j)) (ap (row (trace T w k)) e ∙ start_row (i / 32) (omega arith))
      ∙ input_zeros T w k size canonical (3 * (i / 32)) j (omega arith) m

  new_zeros : (i j : ℕ) → i < 32 * k → entering i ≡ true → j < 4
      → cell (back T (trace T w k) (i + 1)) (8 + j) ≡ cell (initial_constant T) (8 + j)
  new_zeros i j l r m = go (entering_hash i r)
    where
      go : (h : ℕ) × (h % 3 ≡ 2 → ⊥) × (i ≡ first_row h + 9)
          → cell (back T (trace T w k) (i + 1)) (8 + j) ≡ cell (initial_constant T) (8 + j)
      go s =
          let h = s.0 in
          let e : i + 1 ≡ first_row (h + 1) = omega arith in
          let z = input_zeros T w k size canonical (h + 1) j (omega arith) m in
          let c = cell_plus (hash_input T w (h + 1)) (initial_constant T) (8 + j) (omega arith) in
          ap (λ x. cell (back T (trace T w k) x) (8 + j)) e
          ∙ ap (λ x. cell x (8 + j)) (back_start (h + 1) (omega arith))
          ∙ c
          ∙ omega (arith, z, K₀_cell (8 + j))

  starts : (i j : ℕ) → i < 32 * k → within i ≡ 0 → j < 12
      → add (cell (row (trace T w k) i) j) (cell (initial_constant T) j) ≡ cell (back T (trace T w k) (i + 1)) j
  starts i j l r m =
      let e : i ≡ 32 * (i / 32) = omega arith in
      let f : first_row (3 * (i / 32)) ≡ i + 1 = omega arith in
      ap (λ s. add (cell s j) (cell (initial_constant T) j))
      (ap (row (trace T w k)) e ∙ start_row (i / 32) (omega arith))
      ∙ sym (cell_plus (hash_input T w (3 * (i / 32))) (initial_constant T) j m)
      ∙ ap (λ s. cell s j) (sym (back_start (3 * (i / 32)) (omega arith)) ∙ ap (back T (trace T w k)) f)

  goes_on : (i j : ℕ) → i < 32 * k → 1 ≤ within i → within i ≤ 29 → entering i ≡ false → j < 12
      → cell (forward T (trace T w k) i) j ≡ cell (back T (trace T w k) (i + 1)) j
  goes_on i j l r s n m = ap (λ x. cell x j) (go (round_hash i r s n))
    where
      go : (h : ℕ) × (c : ℕ) × (c < 9) × (i ≡ first_row h + c) → forward T (trace T w k) i ≡ back T (trace T w k) (i + 1)
      go x =
          let h = x.0 in
          let c = x.1 in
          let e : i ≡ first_row h + c = x.3 in
          let f : first_row h + suc c ≡ i + 1 = omega arith in
          ap (forward T (trace T w k)) e
          ∙ forward_is T (trace T w k) h c (omega arith) (ap entering (sym e) ∙ n)
          ∙ second_round h (omega arith) c (omega arith)
          ∙ sym (back_round h (omega arith) (suc c) (omega arith))
          ∙ ap (back T (trace T w k)) f

  output_kept : (i j : ℕ) → i < 32 * k → 1 ≤ within i → within i ≤ 29 → j < 4
      → cell (forward T (trace T w k) i) j ≡ cell (back T (trace T w k) (i + 1)) j
  unfolding final_state
  output_kept i j l r s m = go (entering i) refl
    where
      at : (h : ℕ) × (h % 3 ≡ 2 → ⊥) × (i ≡ first_row h + 9) → entering i ≡ true
          → cell (forward T (trace T w k) i) j ≡ cell (back T (trace T w k) (i + 1)) j
      at x n =
          let h = x.0 in
          let e : i ≡ first_row h + 9 = x.2 in
          let f : first_row (h + 1) ≡ i + 1 = omega arith in
          ap (λ y. cell (forward T (trace T w k) y) j) e
          ∙ forward_enters T (trace T w k) h 9 (omega arith) (ap entering (sym e) ∙ n) j m
          ∙ ap (λ y. add y (cell (initial_constant T) j))
          (ap (λ y. cell y j) (second_round h (omega arith) 9 (omega arith))
          ∙ sym (next_output_cell h j (omega arith) m))
          ∙ sym (cell_plus (hash_input T w (h + 1)) (initial_constant T) j (omega arith))
          ∙ ap (λ y. cell y j) (sym (back_start (h + 1) (omega arith)) ∙ ap (back T (trace T w k)) f)

      go : (b : Bool) → entering i ≡ b → cell (forward T (trace T w k) i) j ≡ cell (back T (trace T w k) (i + 1)) j
      go true n = at (entering_hash i n) n
      go false n = goes_on i j l r s n (omega arith)

  ends : (i j : ℕ) → i < 32 * k → within i ≡ 30 → j < 12
      → cell (forward T (trace T w k) i) j ≡ cell (row (trace T w k) (i + 1)) j
  unfolding final_state
  ends i j l r m =
      let h : ℕ = 3 * (i / 32) + 2 in
      let e : i ≡ first_row (3 * (i / 32) + 2) + 9 = omega arith in
      let f : 32 * (i / 32) + 31 ≡ i + 1 = omega arith in
      ap (λ y. cell y j)
      (ap (forward T (trace T w k)) e
      ∙ forward_is T (trace T w k) h 9 (omega arith)
      (ap entering (sym e) ∙ enters_not i (λ z. omega arith) (λ z. omega arith))
      ∙ second_round h (omega arith) 9 (omega arith)
      ∙ sym (end_row (i / 32) (omega arith))
      ∙ ap (row (trace T w k)) f)

  joins : (i j : ℕ) → i < 32 * k → within i ≡ 31 → (i + 1 ≡ 32 * k → ⊥) → j < 4
      → cell (row (trace T w k) i) j ≡ cell (row (trace T w k) (i + 1)) j
  joins i j l r n m =
      let e : i ≡ 32 * (i / 32) + 31 = omega arith in
      let f : 32 * (i / 32 + 1) ≡ i + 1 = omega arith in
      let g : 3 * (i / 32) + 2 + 1 ≡ 3 * (i / 32 + 1) = omega arith in
      ap (λ y. cell y j) (ap (row (trace T w k)) e ∙ end_row (i / 32) (omega arith))
      ∙ sym (next_output_cell (3 * (i / 32) + 2) j (omega arith) m)
      ∙ ap (λ y. cell y j)
      (ap (hash_input T w) g ∙ sym (start_row (i / 32 + 1) (omega arith)) ∙ ap (row (trace T w k)) f)

  claims : (c i j : ℕ) → i < 32 * k → i + 1 ≡ 32 * c → j < 4 → cell (row (trace T w k) i) j ≡ cell (chain T w c) j
  claims c i j l r m =
      let e : i ≡ 32 * c - 1 = omega arith in
      ap (λ y. cell y j) (row_of_trace T w k size canonical i l ∙ ap (trace_row T w) e)
      ∙ sym (cell_take (trace_row T w (32 * c - 1)) j m)
      ∙ ap (λ y. cell y j) (last_row_output T w c (omega arith))

  pub meets_equations : (c : ℕ) → Equations T (trace T w k) (chain T w c) c k
  meets_equations c =
      record {
        zero_columns = zero_columns;
        new_zeros = new_zeros;
        starts = starts;
        output_kept = output_kept;
        goes_on = goes_on;
        ends = ends;
        joins = joins;
        claims = claims c;
      }
