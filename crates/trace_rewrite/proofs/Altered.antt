-- A list with tap n replaced: its length, its words and its taps; before the hash that takes tap n in, outputs, inputs
-- and rows are those of the list as it was.
-- Assumes nothing.
use mathlib.Core.Path.{◌≡◌, refl, sym, ap, ap₂, ◌∙◌}
use mathlib.Core.List.{List, ◌++◌, append_assoc}
use Prim.Native.Nat.{ℕ, zero, suc, ◌+◌, ◌*◌, ◌-◌, ◌/◌, ◌%◌, ◌≤◌, ◌<◌}
use native.Mathlib.Decide.{dec_le, dec_lt}
use native.Mathlib.Omega.{arith}
use borrow.Author.Tests.{le-leb, lt-leb}
use lib.ListN.{length, take, drop, length-append, length-take, length-drop, take-append-drop, get_or-append}
use lib.Seq.{length-take-le, take_at, drop_at, take-add, get_or-append-add, get_or-take, get_or-drop, ext_get_or}
use Rattle.lists.specs.Lists.{cell}
use Rattle.field_words.specs.Words.{AllCanonical}
use Rattle.field_words.proofs.Laws.{append_canonical}
use Rattle.hash.specs.Hash.{hash, input, middle_state, final_state, tap, output_at}
use Rattle.hash.proofs.States.{cell_lt}
use Rattle.hash.proofs.Inputs.{cell_tap}
use Rattle.trace.specs.Trace.{hash_input, trace_row}
use Rattle.trace.specs.RowHelpers.{rows_before}
use Rattle.trace.proofs.RowKinds.{RowKind, start, middle, end, row_kind, row_start, row_middle, row_end}
use Rattle.trace_rewrite.specs.Edit.{altered, touched_row, first_touched}

-- ---- the first row touched is the one in which the input of the hash that takes tap n in shows first
touched_row_is : (r : ℕ) → r < 3 → touched_row r ≡ 10 * r + (r + 2) / 3
touched_row_is zero h = refl
touched_row_is (suc zero) h = refl
touched_row_is (suc (suc zero)) h = refl
touched_row_is (suc (suc (suc r))) h = absurd (omega arith)

pub touched_is : (n : ℕ) → first_touched n ≡ rows_before (n - 1)
unfolding first_touched rows_before
touched_is n = go (dec_le n 1)
  where
    go : Dec (n ≤ 1) → first_touched n ≡ rows_before (n - 1)
    go (yes h) = rw (le-leb n 1 h) (omega arith)
    go (no h) =
        let e = touched_row_is ((n - 1) % 3) (omega arith) in
        rw (lt-leb n 1 (omega arith), e) (omega arith)

module _ (w : List ℕ) (n : ℕ) (new : List ℕ) (four : length new ≡ 4) (inside : 4 * n + 4 ≤ length w) where
  length_front : length (take (4 * n) w) ≡ 4 * n
  length_front = length-take-le (4 * n) w (omega arith)

  length_upto : length (take (4 * n) w ++ new) ≡ 4 * n + 4
  length_upto = length-append (take (4 * n) w) new ∙ omega (arith, length_front)

  pub length_altered : length (altered w n new) ≡ length w
  unfolding altered
  length_altered =
      length-append (take (4 * n) w ++ new) (drop (4 * n + 4) w)
      ∙ omega (arith, length_upto, length-drop (4 * n + 4) w)

  pub altered_canonical : AllCanonical w → AllCanonical new → AllCanonical (altered w n new)
  unfolding altered
  altered_canonical a b =
      append_canonical (take (4 * n) w ++ new) (drop (4 * n + 4) w)
      (append_canonical (take (4 * n) w) new
      (λ i l. omega (arith, get_or-take (4 * n) w i 0 (omega (arith, length_front)), cell_lt w a i))
      b)
      (λ i l. omega (arith, get_or-drop (4 * n + 4) w i 0, cell_lt w a (4 * n + 4 + i)))

  -- ---- its taps
  pub tap_altered : tap (altered w n new) n ≡ new
  unfolding altered tap
  tap_altered =
      ap (λ l. take 4 (drop (4 * n) l)) (append_assoc (take (4 * n) w) new (drop (4 * n + 4) w))
      ∙ ap (take 4) (drop_at (take (4 * n) w) (new ++ drop (4 * n + 4) w) (4 * n) length_front)
      ∙ take_at new (drop (4 * n + 4) w) 4 four

  cell_before : (i : ℕ) → i < 4 * n → cell (altered w n new) i ≡ cell w i
  unfolding altered
  cell_before i h =
      get_or-append (take (4 * n) w ++ new) (drop (4 * n + 4) w) 0 i (omega (arith, length_upto))
      ∙ get_or-append (take (4 * n) w) new 0 i (omega (arith, length_front))
      ∙ get_or-take (4 * n) w i 0 h

  cell_after : (i : ℕ) → 4 * n + 4 ≤ i → cell (altered w n new) i ≡ cell w i
  unfolding altered
  cell_after i h =
      ap (cell (take (4 * n) w ++ new ++ drop (4 * n + 4) w)) e
      ∙ get_or-append-add (take (4 * n) w ++ new) (drop (4 * n + 4) w) (i - (4 * n + 4)) 0
      ∙ get_or-drop (4 * n + 4) w (i - (4 * n + 4)) 0
      ∙ ap (cell w) f
    where
      e : i ≡ length (take (4 * n) w ++ new) + (i - (4 * n + 4))
      e = omega (arith, length_upto)

      f : 4 * n + 4 + (i - (4 * n + 4)) ≡ i
      f = omega arith

  length_tap : (m : ℕ) → length (tap (altered w n new) m) ≡ length (tap w m)
  unfolding tap
  length_tap m =
      let e = length_altered in
      let v = length-take 4 (drop (4 * m) (altered w n new)) in
      let u = length-take 4 (drop (4 * m) w) in
      let x = length-drop (4 * m) (altered w n new) in
      let y = length-drop (4 * m) w in
      omega arith

  pub tap_other : (m : ℕ) → (m ≡ n → ⊥) → tap (altered w n new) m ≡ tap w m
  unfolding tap
  tap_other m h = ext_get_or 0 (tap v m) (tap w m) (length_tap m) word
    where
      v : List ℕ
      v = altered w n new

      same : (i : ℕ) → Dec (m < n) → i < 4 → cell v (4 * m + i) ≡ cell w (4 * m + i)
      same i (yes b) l = cell_before (4 * m + i) (omega arith)
      same i (no b) l = cell_after (4 * m + i) (omega arith)

      word : (i : ℕ) → i < length (tap v m) → cell (tap v m) i ≡ cell (tap w m) i
      word i l =
          let b : i < 4 = omega (arith, length-take 4 (drop (4 * m) v)) in
          cell_tap v m i b ∙ same i (dec_lt m n) b ∙ sym (cell_tap w m i b)

  pub altered_same : new ≡ tap w n → altered w n new ≡ w
  unfolding altered tap
  altered_same e =
      ap (λ l. take (4 * n) w ++ l ++ drop (4 * n + 4) w) e
      ∙ ap (λ l. l ++ drop (4 * n + 4) w) (sym (take-add (4 * n) 4 w))
      ∙ take-append-drop (4 * n + 4) w

  -- ---- before the hash that takes tap n in
  module _ (T : List ℕ) where
    pub output_before : (h : ℕ) → h < n → output_at T (altered w n new) h ≡ output_at T w h
    unfolding output_at
    output_before zero l = tap_other 0 (λ e. omega arith)
    output_before (suc h) l = ap₂ (hash T) (output_before h (omega arith)) (tap_other (suc h) (λ e. omega arith))

    pub input_before_lem : (h : ℕ) → h + 1 < n → hash_input T (altered w n new) h ≡ hash_input T w h
    unfolding hash_input
    input_before_lem h l = ap₂ input (output_before h (omega arith)) (tap_other (h + 1) (λ e. omega arith))

    pub row_before : (i : ℕ) → i < rows_before (n - 1) → trace_row T (altered w n new) i ≡ trace_row T w i
    unfolding rows_before
    row_before i l = go (row_kind i)
      where
        v : List ℕ
        v = altered w n new

        go : RowKind i → trace_row T v i ≡ trace_row T w i
        go (start b e) =
            ap (trace_row T v) e
            ∙ row_start T v b
            ∙ input_before_lem (3 * b) (omega arith)
            ∙ sym (ap (trace_row T w) e ∙ row_start T w b)
        go (middle h j q e) =
            ap (trace_row T v) e
            ∙ row_middle T v h j q
            ∙ ap (λ s. middle_state T s j) (input_before_lem h (omega arith))
            ∙ sym (ap (trace_row T w) e ∙ row_middle T w h j q)
        go (end b e) =
            ap (trace_row T v) e
            ∙ row_end T v b
            ∙ ap (final_state T) (input_before_lem (3 * b + 2) (omega arith))
            ∙ sym (ap (trace_row T w) e ∙ row_end T w b)
