-- What each row of a section 3.1 trace is: the input of a batch's first hash, a middle state, or the final state of its
-- third hash; and there is no fourth kind.
-- Assumes nothing.
use mathlib.Core.Path.{◌≡◌, ap, ap₂, ◌∙◌}
use mathlib.Core.List.{List}
use Prim.Native.Nat.{ℕ, ◌+◌, ◌*◌, ◌-◌, ◌/◌, ◌%◌, ◌<◌}
use native.Mathlib.Decide.{ℕ_discrete}
use native.Mathlib.Omega.{arith}
use borrow.Author.Tests.{ne_eqb}
use Rattle.hash.specs.Hash.{middle_state, final_state}
use Rattle.trace.specs.Trace.{hash_input, batch_row, trace_row}

-- the kinds of rows, for hash h of the chain and round j
pub data RowKind (i : ℕ) : Type 0 where
  start : (b : ℕ) → i ≡ 32 * b → RowKind i
  middle : (h j : ℕ) → j < 10 → i ≡ 32 * (h / 3) + 10 * (h % 3) + 1 + j → RowKind i
  end : (b : ℕ) → i ≡ 32 * b + 31 → RowKind i

pub row_kind : (i : ℕ) → RowKind i
row_kind i = go (ℕ_discrete (i % 32) 0) (ℕ_discrete (i % 32) 31)
  where
    go : Dec (i % 32 ≡ 0) → Dec (i % 32 ≡ 31) → RowKind i
    go (yes e) d = start (i / 32) (omega arith)
    go (no n) (yes e) = end (i / 32) (omega arith)
    go (no n) (no m) = middle (3 * (i / 32) + (i % 32 - 1) / 10) ((i % 32 - 1) % 10) (omega arith) (omega arith)

module _ (T w : List ℕ) where
  row_of_batch : (b r : ℕ) → r < 32 → trace_row T w (32 * b + r) ≡ batch_row T w b r
  unfolding trace_row
  row_of_batch b r h =
      let p : (32 * b + r) / 32 ≡ b = omega arith in
      let q : (32 * b + r) % 32 ≡ r = omega arith in
      ap₂ (batch_row T w) p q

  pub row_start : (b : ℕ) → trace_row T w (32 * b) ≡ hash_input T w (3 * b)
  unfolding batch_row
  row_start b =
      let e : 32 * b ≡ 32 * b + 0 = omega arith in
      ap (trace_row T w) e ∙ row_of_batch b 0 (omega arith)

  pub row_end : (b : ℕ) → trace_row T w (32 * b + 31) ≡ final_state T (hash_input T w (3 * b + 2))
  unfolding batch_row
  row_end b = row_of_batch b 31 (omega arith)

  batch_middle : (b e j : ℕ) → e < 3 → j < 10
      → batch_row T w b (10 * e + 1 + j) ≡ middle_state T (hash_input T w (3 * b + e)) j
  unfolding batch_row
  batch_middle b e j p q =
      let u : (10 * e + 1 + j - 1) / 10 ≡ e = omega arith in
      let v : (10 * e + 1 + j - 1) % 10 ≡ j = omega arith in
      rw (ne_eqb (10 * e + 1 + j) 0 (λ z. omega arith), ne_eqb (10 * e + 1 + j) 31 (λ z. omega arith), u, v)

  pub row_middle : (h j : ℕ) → j < 10
      → trace_row T w (32 * (h / 3) + 10 * (h % 3) + 1 + j) ≡ middle_state T (hash_input T w h) j
  row_middle h j q =
      let e : 32 * (h / 3) + 10 * (h % 3) + 1 + j ≡ 32 * (h / 3) + (10 * (h % 3) + 1 + j) = omega arith in
      let f : 3 * (h / 3) + h % 3 ≡ h = omega arith in
      ap (trace_row T w) e
      ∙ row_of_batch (h / 3) (10 * (h % 3) + 1 + j) (omega arith)
      ∙ batch_middle (h / 3) (h % 3) j (omega arith) q
      ∙ ap (λ n. middle_state T (hash_input T w n) j) f
