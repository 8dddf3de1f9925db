-- The section 3.1 trace of a list of canonical taps: its length, its cells, which are canonical, and its last row,
-- which begins with the chain's output.
-- Assumes nothing.
use mathlib.Core.Path.{◌≡◌, sym, ap, ap₂, ◌∙◌, subst}
use mathlib.Core.List.{List}
use Prim.Native.Nat.{ℕ, ◌+◌, ◌*◌, ◌-◌, ◌/◌, ◌%◌, ◌≤◌, ◌<◌}
use native.Mathlib.Omega.{arith}
use native.Mathlib.Numerals.{add-one}
use lib.ListN.{length, take}
use Rattle.lists.specs.Lists.{cell}
use Rattle.lists.proofs.Tab.{length_tab, cell_tab}
use Rattle.field.specs.Field.{P}
use Rattle.field_words.specs.Words.{AllCanonical}
use Rattle.hash.specs.Hash.{input, tap, output_at, chain, final_state}
use Rattle.hash.proofs.States.{IsState, state_cell, middle_state_state, final_state_state}
use Rattle.hash.proofs.Inputs.{IsTap, tap_is_tap, cell_input_left, cell_input_right, cell_input_zeros}
use Rattle.hash.proofs.Inputs.{input_state, output_tap, output_suc}
use Rattle.trace.specs.Trace.{hash_input, trace_row, trace}
use Rattle.trace.proofs.RowKinds.{RowKind, start, middle, end, row_kind, row_start, row_end, row_middle}

-- the output of hash h is the first four cells of its final state
pub next_output : (T w : List ℕ) (h : ℕ) → output_at T w (h + 1) ≡ take 4 (final_state T (hash_input T w h))
unfolding hash_input
next_output T w h =
    ap (output_at T w) (add-one h)
    ∙ output_suc T w h
    ∙ ap (λ n. take 4 (final_state T (input (output_at T w h) (tap w n)))) (sym (add-one h))

pub length_trace : (T w : List ℕ) (k : ℕ) → length (trace T w k) ≡ 384 * k
unfolding trace
length_trace T w k = length_tab (384 * k) _

-- row by row, 12 cells a row
pub cell_trace : (T w : List ℕ) (k i j : ℕ) → i < 32 * k → j < 12
    → cell (trace T w k) (12 * i + j) ≡ cell (trace_row T w i) j
unfolding trace
cell_trace T w k i j p q =
    let u : (12 * i + j) / 12 ≡ i = omega arith in
    let v : (12 * i + j) % 12 ≡ j = omega arith in
    cell_tab (384 * k) _ (12 * i + j) (omega arith) ∙ ap₂ (λ x y. cell (trace_row T w x) y) u v

-- the last row begins with the chain's output
pub last_row_output : (T w : List ℕ) (k : ℕ) → 1 ≤ k → take 4 (trace_row T w (32 * k - 1)) ≡ chain T w k
unfolding chain
last_row_output T w k p =
    let e : 32 * k - 1 ≡ 32 * (k - 1) + 31 = omega arith in
    let f : 3 * (k - 1) + 2 + 1 ≡ 3 * k = omega arith in
    ap (λ i. take 4 (trace_row T w i)) e
    ∙ ap (take 4) (row_end T w (k - 1))
    ∙ sym (next_output T w (3 * (k - 1) + 2))
    ∙ ap (output_at T w) f

module _ (T w : List ℕ) (k : ℕ) (sized : length w ≡ 12 * k + 4) (canonical : AllCanonical w) where
  pub output_is_tap : (h : ℕ) → IsTap (output_at T w h)
  output_is_tap h = output_tap T w canonical (omega arith) h

  pub next_tap_is_tap : (h : ℕ) → h < 3 * k → IsTap (tap w (h + 1))
  next_tap_is_tap h l = tap_is_tap w canonical (h + 1) (omega arith)

  -- ---- the input of hash h: the last output, the next tap, four zeros
  pub input_output : (h j : ℕ) → h < 3 * k → j < 4 → cell (hash_input T w h) j ≡ cell (output_at T w h) j
  unfolding hash_input
  input_output h j l q = cell_input_left (output_is_tap h) (next_tap_is_tap h l) j q

  pub input_next_tap : (h j : ℕ) → h < 3 * k → j < 4 → cell (hash_input T w h) (4 + j) ≡ cell (tap w (h + 1)) j
  unfolding hash_input
  input_next_tap h j l q = cell_input_right (output_is_tap h) (next_tap_is_tap h l) j q

  pub input_zeros : (h j : ℕ) → h < 3 * k → j < 4 → cell (hash_input T w h) (8 + j) ≡ 0
  unfolding hash_input
  input_zeros h j l q = cell_input_zeros (output_is_tap h) (next_tap_is_tap h l) j q

  pub hash_input_state : (h : ℕ) → h < 3 * k → IsState (hash_input T w h)
  unfolding hash_input
  hash_input_state h l = input_state (output_is_tap h) (next_tap_is_tap h l)

  -- ---- rows
  pub trace_row_state : (i : ℕ) → i < 32 * k → IsState (trace_row T w i)
  trace_row_state i l = go (row_kind i)
    where
      go : RowKind i → IsState (trace_row T w i)
      go (start b e) =
          subst IsState (sym (ap (trace_row T w) e ∙ row_start T w b)) (hash_input_state (3 * b) (omega arith))
      go (middle h j q e) =
          subst IsState (sym (ap (trace_row T w) e ∙ row_middle T w h j q)) (middle_state_state T (hash_input T w h) j)
      go (end b e) =
          subst IsState (sym (ap (trace_row T w) e ∙ row_end T w b)) (final_state_state T (hash_input T w (3 * b + 2)))

  pub trace_canonical : AllCanonical (trace T w k)
  trace_canonical n l =
      subst (λ m. cell (trace T w k) m < P) e
      (omega (arith, c, state_cell (trace_row_state (n / 12) (omega (arith, within))) (n % 12)))
    where
      within : n < 384 * k
      within = omega (arith, length_trace T w k)

      e : 12 * (n / 12) + n % 12 ≡ n
      e = omega arith

      c : cell (trace T w k) (12 * (n / 12) + n % 12) ≡ cell (trace_row T w (n / 12)) (n % 12)
      c = cell_trace T w k (n / 12) (n % 12) (omega (arith, within)) (omega arith)
