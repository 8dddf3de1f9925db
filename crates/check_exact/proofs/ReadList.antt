-- A trace whose tests hold is the section 3.1 trace of the list that is read off it, and that list chains to the claim.
-- Assumes nothing.
use mathlib.Core.Path.{◌≡◌, refl, sym, ap, ◌∙◌, subst}
use mathlib.Core.List.{List}
use Prim.Native.Nat.{ℕ, zero, suc, ◌+◌, ◌*◌, ◌-◌, ◌/◌, ◌%◌, ◌≤◌, ◌<◌}
use native.Mathlib.Nat.{zero-add}
use native.Mathlib.Numerals.{add-one}
use native.Mathlib.Decide.{dec_lt}
use native.Mathlib.Omega.{arith}
use borrow.Author.Tests.{lt-ltb, le-ltb}
use lib.ListN.{length}
use Rattle.lists.specs.Lists.{cell}
use Rattle.lists.proofs.Tab.{length_tab, cell_tab}
use Rattle.field.specs.Field.{P}
use Rattle.field_words.specs.Words.{AllCanonical}
use Rattle.table.specs.Table.{IsTable}
use Rattle.hash.specs.Hash.{output_at, chain, middle_state, final_state}
use Rattle.hash.proofs.States.{state_cell, same_state, same_cells}
use Rattle.hash.proofs.Inputs.{by_fours, cell_take, cell_tap, output_zero}
use Rattle.hash_chain.proofs.FirstTaps.{chain_first}
use Rattle.trace.specs.Trace.{hash_input, trace_row, trace}
use Rattle.trace.proofs.RowKinds.{RowKind, start, middle, end, row_kind, row_start, row_middle, row_end}
use Rattle.trace.proofs.TraceCells.{length_trace, cell_trace, next_output, output_is_tap, hash_input_state}
use Rattle.trace.proofs.TraceCells.{input_output, input_next_tap, input_zeros, trace_row_state}
use Rattle.trace.specs.Trace.{row}
use Rattle.check_constraints.specs.ReadOff.{read_input, read_word, read_taps}
use Rattle.check_constraints.proofs.RowCells.{cell_row, length_row, same_rows}
use Rattle.check_constraints.proofs.Equations.{Equations}
use Rattle.check_exact.specs.Exact.{IsListFor}
use Rattle.check_exact.proofs.Sound as sound

-- ---- the words of the list
pub length_read : (T t : List ℕ) (k : ℕ) → length (read_taps T t k) ≡ 12 * k + 4
unfolding read_taps
length_read T t k = length_tab (12 * k + 4) (read_word T t)

-- w_0 from columns 0 to 3 of the first row 0
pub first_tap_read : (T t : List ℕ) (k j : ℕ) → j < 4 → cell (read_taps T t k) j ≡ cell (row t 0) j
unfolding read_taps read_word
first_tap_read T t k j h = cell_tab (12 * k + 4) (read_word T t) j (omega arith) ∙ rw (lt-ltb j 4 h)

-- w_(h+1) from columns 4 to 7 of the input of hash h
pub next_tap_read : (T t : List ℕ) (k h j : ℕ) → h < 3 * k → j < 4
    → cell (read_taps T t k) (4 * (h + 1) + j) ≡ cell (read_input T t h) (4 + j)
unfolding read_taps read_word
next_tap_read T t k h j l m =
    let x : (4 * (h + 1) + j) / 4 - 1 ≡ h = omega arith in
    let y : (4 * (h + 1) + j) % 4 ≡ j = omega arith in
    cell_tab (12 * k + 4) (read_word T t) (4 * (h + 1) + j) (omega arith)
    ∙ rw (le-ltb (4 * (h + 1) + j) 4 (omega arith), x, y)

-- the rows of a section 3.1 trace are its rows
pub row_of_trace : (T w : List ℕ) (k : ℕ) → length w ≡ 12 * k + 4 → AllCanonical w → (i : ℕ) → i < 32 * k
    → row (trace T w k) i ≡ trace_row T w i
row_of_trace T w k size canonical i l =
    same_cells 12 (row (trace T w k) i) (trace_row T w i)
    (length_row (trace T w k) i (omega (arith, length_trace T w k)))
    (trace_row_state T w k size canonical i l).size
    (λ j h. cell_row (trace T w k) i j h ∙ cell_trace T w k i j l h)

module _ (T t claim : List ℕ) (c k : ℕ) (accepted : IsTable T) (low : 1 ≤ c) (high : c ≤ k)
    (size : length t ≡ 384 * k)
    (canonical : AllCanonical t)
    (four : length claim ≡ 4) (q : Equations T t claim c k) where
  read_canonical : AllCanonical (read_taps T t k)
  read_canonical n l = go (dec_lt n 4)
    where
      within : n < 12 * k + 4
      within = omega (arith, length_read T t k)

      go : Dec (n < 4) → cell (read_taps T t k) n < P
      go (yes h) =
          omega (
            arith,
            first_tap_read T t k n h,
            state_cell (sound.row_is_state T t claim c k accepted size canonical q 0 (omega arith)) n,
          )
      go (no h) =
          let e : 4 * (n / 4 - 1 + 1) + n % 4 ≡ n = omega arith in
          let f = next_tap_read T t k (n / 4 - 1) (n % 4) (omega (arith, within)) (omega arith) in
          let g =
          state_cell (sound.read_state T t claim c k accepted size canonical q (n / 4 - 1) (omega (arith, within)))
          (4 + n % 4) in
          subst (λ m. cell (read_taps T t k) m < P) e (omega arith)

  -- ---- the inputs along the chain are those that were read off
  input_from_output : (h : ℕ) → h < 3 * k
      → ((j : ℕ) → j < 4 → cell (output_at T (read_taps T t k) h) j ≡ cell (read_input T t h) j)
      → hash_input T (read_taps T t k) h ≡ read_input T t h
  input_from_output h l left =
      same_state (hash_input_state T w k (length_read T t k) read_canonical h l)
      (sound.read_state T t claim c k accepted size canonical q h l)
      (by_fours (λ j. cell (hash_input T w h) j ≡ cell (read_input T t h) j)
      (λ j m. input_output T w k (length_read T t k) read_canonical h j l m ∙ left j m)
      (λ j m. input_next_tap T w k (length_read T t k) read_canonical h j l m
      ∙ cell_tap w (h + 1) j m
      ∙ next_tap_read T t k h j l m)
      (λ j m. input_zeros T w k (length_read T t k) read_canonical h j l m
      ∙ sym (sound.zeros_read T t claim c k accepted size canonical q h j l m)))
    where
      w : List ℕ
      w = read_taps T t k

  pub input_read : (h : ℕ) → h < 3 * k → hash_input T (read_taps T t k) h ≡ read_input T t h
  input_read zero l =
      input_from_output 0 l
      (λ j m.
      ap (λ s. cell s j) (output_zero T (read_taps T t k))
      ∙ cell_tap (read_taps T t k) 0 j m
      ∙ ap (cell (read_taps T t k)) (zero-add j)
      ∙ first_tap_read T t k j m
      ∙ ap (λ s. cell s j) (sym (sound.start_read T t claim c k accepted size canonical q 0 refl)))
  input_read (suc h) l =
      input_from_output (suc h) l
      (λ j m.
      ap (λ n. cell (output_at T (read_taps T t k) n) j) (sym (add-one h))
      ∙ ap (λ s. cell s j) (next_output T (read_taps T t k) h)
      ∙ cell_take (final_state T (hash_input T (read_taps T t k) h)) j m
      ∙ ap (λ s. cell (final_state T s) j) (input_read h (omega arith))
      ∙ sym (sound.output_read T t claim c k accepted size canonical q h j (omega arith) m)
      ∙ ap (λ n. cell (read_input T t n) j) (add-one h))

  -- ---- so every row is that of the list's trace
  row_read : (i : ℕ) → i < 32 * k → row t i ≡ trace_row T (read_taps T t k) i
  row_read i l = go (row_kind i)
    where
      w : List ℕ
      w = read_taps T t k

      go : RowKind i → row t i ≡ trace_row T w i
      go (start b e) =
          let x : i ≡ 32 * (3 * b / 3) = omega arith in
          ap (row t) x
          ∙ sym (sound.start_read T t claim c k accepted size canonical q (3 * b) (omega arith))
          ∙ sym (input_read (3 * b) (omega arith))
          ∙ sym (row_start T w b)
          ∙ ap (trace_row T w) (sym e)
      go (middle h j m e) =
          ap (row t) e
          ∙ sound.row_round T t claim c k accepted size canonical q h (omega arith) j m
          ∙ ap (λ s. middle_state T s j) (sym (input_read h (omega arith)))
          ∙ sym (row_middle T w h j m)
          ∙ ap (trace_row T w) (sym e)
      go (end b e) =
          ap (row t) e
          ∙ sound.end_row T t claim c k accepted size canonical q b (omega arith)
          ∙ ap (final_state T) (sym (input_read (3 * b + 2) (omega arith)))
          ∙ sym (row_end T w b)
          ∙ ap (trace_row T w) (sym e)

  trace_read : trace T (read_taps T t k) k ≡ t
  trace_read =
      same_rows (32 * k) (trace T (read_taps T t k) k) t (length_trace T (read_taps T t k) k ∙ rows) (size ∙ rows)
      (λ i l. row_of_trace T (read_taps T t k) k (length_read T t k) read_canonical i l ∙ sym (row_read i l))
    where
      rows : 384 * k ≡ 12 * (32 * k)
      rows = omega arith

  chain_read : chain T (read_taps T t k) c ≡ claim
  unfolding chain
  chain_read =
      same_cells 4 (output_at T (read_taps T t k) (3 * c)) claim
      (output_is_tap T (read_taps T t k) k (length_read T t k) read_canonical (3 * c)).size four
      (λ j m.
      ap (λ n. cell (output_at T (read_taps T t k) n) j) last
      ∙ ap (λ s. cell s j) (next_output T (read_taps T t k) (3 * c - 1))
      ∙ cell_take (final_state T (hash_input T (read_taps T t k) (3 * c - 1))) j m
      ∙ ap (λ s. cell (final_state T s) j) (input_read (3 * c - 1) (omega arith))
      ∙ sym (sound.claim_read T t claim c k accepted size canonical q j low high m))
    where
      last : 3 * c ≡ 3 * c - 1 + 1
      last = omega arith

  pub is_list_for : IsListFor T t claim c k (read_taps T t k)
  is_list_for =
      record {
        size = length_read T t k;
        canonical = read_canonical;
        chains = chain_first T (read_taps T t k) c ∙ chain_read;
        traced = trace_read;
      }
