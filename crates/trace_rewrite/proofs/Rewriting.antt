-- A trace rewritten from the hash that takes tap n in: what is read of its old rows are the taps of the list, and the
-- rows that are left and those that are written make the trace of the altered list.
-- Assumes nothing.
use mathlib.Core.Path.{◌≡◌, sym, ap, ◌∙◌, subst}
use mathlib.Core.List.{List, [], ◌∷◌, ◌++◌, append_assoc}
use Prim.Native.Nat.{ℕ, ◌+◌, ◌*◌, ◌-◌, ◌/◌, ◌%◌, ◌≤◌, ◌<◌}
use native.Mathlib.Decide.{ℕ_discrete}
use native.Mathlib.Omega.{arith}
use borrow.Author.Tests.{eq-eqb, ne_eqb, le-ltb}
use lib.ListN.{length, take, replicate}
use lib.Seq.{take_at, take_all}
use Rattle.lists.specs.Lists.{choose, cell, tab}
use Rattle.lists.proofs.Tab.{length_tab, cell_tab, tab_ext}
use Rattle.field_words.specs.Words.{AllCanonical}
use Rattle.hash.specs.Hash.{input, tap, output_at, chain, first_taps}
use Rattle.hash.proofs.States.{same_cells}
use Rattle.hash.proofs.Inputs.{cell_tap, tap_is_tap, output_zero, output_tap}
use Rattle.hash_chain.proofs.FirstTaps.{chain_first}
use Rattle.hash_chain.proofs.Answers.{four_cells}
use Rattle.trace.specs.Trace.{row, hash_input, trace_row, trace}
use Rattle.trace.specs.RowHelpers.{with_rows, rows_before}
use Rattle.trace.proofs.TraceCells.{trace_row_state, length_trace, trace_canonical, last_row_output}
use Rattle.trace.proofs.WrittenRows.{length_rows, rows_ext, rows_join, rows_over, row_behind, rows_canonical}
use Rattle.trace.proofs.WrittenHashes.{before_monotone, before_within, all_rows}
use Rattle.check_constraints.specs.ReadOff.{read_input, read_word, read_taps}
use Rattle.check_constraints.proofs.RowCells.{length_row}
use Rattle.trace_read_off.specs.TapHelpers.{HasTap}
use Rattle.trace_rows.specs.RowHelpers.{HasRow}
use Rattle.check_exact.proofs.ReadList.{length_read, row_of_trace}
use Rattle.check_exact.proofs.Built.{input_back}
use Rattle.check_exact.proofs.InputRows.{same_read}
use Rattle.trace_rewrite.specs.Edit.{altered}
use Rattle.trace_rewrite.specs.EditHelpers.{Rewritable, tap_of, last_before}
use Rattle.trace_rewrite.proofs.Altered.{length_altered, altered_canonical, tap_altered, tap_other}
use Rattle.trace_rewrite.proofs.Altered.{output_before, row_before}

-- ---- the two cases of the next tap, and of the last output
module _ (T t : List ℕ) (n : ℕ) (new : List ℕ) where
  pub new_tap : (m : ℕ) → m ≡ n → new ≡ tap_of T t n new m
  unfolding tap_of
  new_tap m e = sym (ap (λ b. choose b new (tab 4 (λ j. read_word T t (4 * m + j)))) (eq-eqb m n e))

  pub held_tap : (m i : ℕ) → i ≡ m → (i ≡ n → ⊥) → {s : List ℕ} → s ≡ tab 4 (λ j. read_word T t (4 * i + j))
      → s ≡ tap_of T t n new m
  unfolding tap_of
  held_tap m i e o q = rw (ne_eqb m n (λ z. o (e ∙ z))) (q ∙ ap (λ x. tab 4 (λ j. read_word T t (4 * x + j))) e)

  pub new_start : n ≡ 0 → length new ≡ 4 → {s : List ℕ} → s ≡ tap new 0 ++ replicate 8 0 → s ≡ last_before T t n new
  unfolding last_before tap
  new_start z l q = rw (eq-eqb n 0 z) (q ∙ ap (λ x. x ++ replicate 8 0) (take_all 4 new (omega arith)))

  pub held_start : (n ≡ 0 → ⊥) → (h : ℕ) → h ≡ n - 1 → {s : List ℕ} → s ≡ read_input T t h → s ≡ last_before T t n new
  unfolding last_before
  held_start z h e q = rw (ne_eqb n 0 z) (q ∙ ap (read_input T t) e)

-- ---- a trace of as many canonical words still holds each tap
pub has_tap : {T t : List ℕ} {k n : ℕ} {new u : List ℕ} {m : ℕ} → Rewritable T t k n new → AllCanonical u
    → length u ≡ length t → m ≤ 3 * k → HasTap u m
has_tap {k = k} r c e l =
    record {
      k = k;
      canonical = c;
      size = e ∙ r.size;
      some = r.some;
      few = omega (arith, r.few);
      inside = l;
    }

-- ---- the tap that hash h takes in is read off one row, the first that its input shows in
same_word : (T t u : List ℕ) (h j : ℕ) → j < 4 → row t (rows_before h) ≡ row u (rows_before h)
    → read_word T t (4 * (h + 1) + j) ≡ read_word T u (4 * (h + 1) + j)
unfolding read_word
same_word T t u h j l e =
    let q : (4 * (h + 1) + j) / 4 - 1 ≡ h = omega arith in
    rw (le-ltb (4 * (h + 1) + j) 4 (omega arith), q)
    (ap (λ s. cell s (4 + (4 * (h + 1) + j) % 4)) (same_read T t u h e))

same_tap : (T t u : List ℕ) (n : ℕ) (new : List ℕ) (h : ℕ) → row t (rows_before h) ≡ row u (rows_before h)
    → tap_of T t n new (h + 1) ≡ tap_of T u n new (h + 1)
unfolding tap_of
same_tap T t u n new h e = go (ℕ_discrete (h + 1) n)
  where
    go : Dec (h + 1 ≡ n) → tap_of T t n new (h + 1) ≡ tap_of T u n new (h + 1)
    go (yes q) = rw (eq-eqb (h + 1) n q)
    go (no q) = rw (ne_eqb (h + 1) n q) (tab_ext 4 _ _ (λ j l. same_word T t u h j l e))

module _ (T t : List ℕ) (k n : ℕ) (new : List ℕ) (r : Rewritable T t k n new) (four : length new ≡ 4) where
  -- the list that the trace holds, and the altered list
  abbrev w : List ℕ
  w = read_taps T t k

  abbrev v : List ℕ
  v = altered w n new

  size_w : length w ≡ 12 * k + 4
  size_w = length_read T t k

  inside : 4 * n + 4 ≤ length w
  inside = omega (arith, size_w, r.inside)

  pub size_v : length v ≡ 12 * k + 4
  size_v = length_altered w n new four inside ∙ size_w

  pub canonical_v : AllCanonical v
  canonical_v = altered_canonical w n new four inside r.taps r.in_range

  -- ---- the taps that are taken in
  read_tap : (m : ℕ) → m ≤ 3 * k → tab 4 (λ j. read_word T t (4 * m + j)) ≡ tap w m
  unfolding read_taps
  read_tap m l =
      same_cells 4 _ (tap w m) (length_tab 4 _) (tap_is_tap w r.taps m (omega (arith, size_w))).size
      (λ j b. cell_tab 4 _ j b
      ∙ sym (cell_tap w m j b ∙ cell_tab (12 * k + 4) (read_word T t) (4 * m + j) (omega arith)))

  next_tap_is : (h : ℕ) → h < 3 * k → tap_of T t n new (h + 1) ≡ tap v (h + 1)
  unfolding tap_of
  next_tap_is h l = go (ℕ_discrete (h + 1) n)
    where
      go : Dec (h + 1 ≡ n) → tap_of T t n new (h + 1) ≡ tap v (h + 1)
      go (yes q) = rw (eq-eqb (h + 1) n q) (sym (tap_altered w n new four inside) ∙ ap (tap v) (sym q))
      go (no q) =
          rw (ne_eqb (h + 1) n q) (read_tap (h + 1) (omega arith) ∙ sym (tap_other w n new four inside (h + 1) q))

  -- ---- the last output before the first hash that is written
  read_output : (h : ℕ) → h < 3 * k → take 4 (read_input T t h) ≡ output_at T w h
  unfolding hash_input input
  read_output h l =
      ap (λ s. take 4 (read_input T s h)) (sym r.traced)
      ∙ ap (take 4) (input_back T w k r.table size_w r.taps h l)
      ∙ ap (take 4) (append_assoc (output_at T w h) (tap w (h + 1)) (replicate 4 0))
      ∙ take_at (output_at T w h) _ 4 (output_tap T w r.taps (omega (arith, size_w)) h).size

  pub starts : take 4 (last_before T t n new) ≡ output_at T v (n - 1)
  unfolding last_before
  starts = go (ℕ_discrete n 0)
    where
      go : Dec (n ≡ 0) → take 4 (last_before T t n new) ≡ output_at T v (n - 1)
      go (yes z) =
          let e : 0 ≡ n - 1 = omega arith in
          rw (eq-eqb n 0 z)
          (take_at new (replicate 8 0) 4 four
          ∙ sym (tap_altered w n new four inside)
          ∙ ap (tap v) z
          ∙ sym (output_zero T v)
          ∙ ap (output_at T v) e)
      go (no z) =
          rw (ne_eqb n 0 z)
          (read_output (n - 1) (omega (arith, r.inside))
          ∙ sym (output_before w n new four inside T (n - 1) (omega arith)))

  -- ---- the rows, before hash h is written
  abbrev a : ℕ
  a = rows_before (n - 1)

  module _ (h : ℕ) (low : n - 1 ≤ h) (high : h < 3 * k) where
    ordered : a ≤ rows_before h
    ordered = before_monotone (n - 1) h low

    within_rows : 12 * rows_before h ≤ length t
    within_rows = omega (arith, before_within k h (omega arith), r.size)

    -- what is still there
    pub canonical_rows : AllCanonical (with_rows (trace_row T v) a (rows_before h) t)
    canonical_rows =
        rows_canonical (trace_row T v) a (rows_before h) t
        (λ i p q. trace_row_state T v k size_v canonical_v i (omega (arith, before_within k h (omega arith))))
        r.canonical

    pub next_is : tap_of T (with_rows (trace_row T v) a (rows_before h) t) n new (h + 1) ≡ tap v (h + 1)
    next_is =
        same_tap T _ t n new h
        (row_behind (trace_row T v) a (rows_before h) t ordered within_rows (rows_before h) (omega arith))
        ∙ next_tap_is h high

  -- ---- all rows
  pub rewritten : with_rows (trace_row T v) a (32 * k) t ≡ trace T v k
  rewritten =
      ap (with_rows (trace_row T v) a (32 * k)) old
      ∙ rows_over (trace_row T v) (trace_row T w) a (32 * k) (with_rows (trace_row T w) 0 a t) few
      (omega (arith, length_rows (trace_row T w) 0 a t (omega arith) (omega (arith, few, r.size)), r.size))
      ∙ ap (with_rows (trace_row T v) a (32 * k)) before
      ∙ rows_join (trace_row T v) 0 a t (omega arith) (omega (arith, few, r.size)) (32 * k) few
      ∙ all_rows T v k t r.size
    where
      few : a ≤ 32 * k
      few = before_within k (n - 1) (omega (arith, r.inside))

      -- the trace of the list, in two parts, and the earlier one as that of the altered list
      old : t ≡ with_rows (trace_row T w) a (32 * k) (with_rows (trace_row T w) 0 a t)
      old =
          sym
          (rows_join (trace_row T w) 0 a t (omega arith) (omega (arith, few, r.size)) (32 * k) few
          ∙ all_rows T w k t r.size
          ∙ r.traced)

      before : with_rows (trace_row T w) 0 a t ≡ with_rows (trace_row T v) 0 a t
      before =
          rows_ext (trace_row T w) (trace_row T v) 0 a t (λ i p q. sym (row_before w n new four inside T i q))

  -- ---- row 31 of batch c − 1, which begins with the output of the altered list's first 3c + 1 taps
  module _ (c : ℕ) (low : 1 ≤ c) (high : c ≤ k) (i : ℕ) (at : i ≡ 32 * (c - 1) + 31) (u : List ℕ)
      (e : u ≡ trace T v k) where
    pub has_claim_row : HasRow u i
    has_claim_row =
        record {
          canonical = subst AllCanonical (sym e) (trace_canonical T v k size_v canonical_v);
          inside = omega (arith, ap length e ∙ length_trace T v k);
          small = omega (arith, r.few);
        }

    pub output_shown : (s : List ℕ) → s ≡ row u i
        → cell s 0 ∷ cell s 1 ∷ cell s 2 ∷ cell s 3 ∷ [] ≡ chain T (first_taps c v) c
    output_shown s q =
        let l : i ≡ 32 * c - 1 = omega arith in
        let twelve : length s ≡ 12 = ap length q ∙ length_row u i has_claim_row.inside in
        four_cells s (omega (arith, twelve))
        ∙ ap (λ x. (take 4 x))
        (q ∙ ap (λ x. row x i) e ∙ row_of_trace T v k size_v canonical_v i (omega arith) ∙ ap (trace_row T v) l)
        ∙ (last_row_output T v c low ∙ sym (chain_first T v c))
