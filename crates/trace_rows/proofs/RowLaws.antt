-- The cells of a row of a lent trace, and of its forward and back, as loops fill them in.
-- Assumes nothing.
use mathlib.Core.Path.{◌≡◌, sym, ap, ap₂, ◌∙◌, subst}
use mathlib.Core.Bool.{Bool, true, false}
use mathlib.Core.List.{List}
use Prim.Native.Nat.{ℕ, ◌+◌, ◌*◌, ◌<◌}
use native.Mathlib.Omega.{arith}
use native.Mathlib.Decide.{dec_lt}
use lib.ListN.{length}
use lib.Dec.{ltb}
use borrow.Author.Tests.{lt-ltb, le-ltb}
use Rattle.lists.specs.Lists.{choose, cell}
use Rattle.lists.proofs.Tab.{filled, filled_before, filled_after, length_filled, tab_unique}
use Rattle.field.specs.Field.{Canonical, add}
use Rattle.field_words.specs.Words.{CanonicalTo}
use Rattle.table.specs.Table.{initial_constant}
use Rattle.hash.specs.Hash.{second_step}
use Rattle.hash.proofs.States.{state_cell, same_cells, second_step_state}
use Rattle.trace.specs.Trace.{row}
use Rattle.check_constraints.specs.Constraints.{round, entering, plus_first, forward, back_step, back}
use Rattle.check_constraints.proofs.RowCells.{cell_row, length_row}
use Rattle.check_constraints.proofs.ForwardBack.{length_first, cell_plus_first, cell_plus_kept}
use Rattle.check_steps.specs.StepHelpers.{columns}
use Rattle.check_steps.proofs.Made.{length_columns, cell_columns, cell_before, cell_beyond}
use Rattle.trace_rows.specs.RowHelpers.{HasRow, tested_columns}

-- s is the row that is read
module _ (t : List ℕ) (i : ℕ) (h : HasRow t i) {s : List ℕ} (e : s ≡ row t i) where
  pub length_read : length s ≡ 12
  length_read = ap length e ∙ length_row t i h.inside

  pub cell_read : {j : ℕ} → j < 12 → (cell s j ≡ cell (row t i) j) × Canonical (cell s j)
  cell_read {j} l =
      let same = ap (λ x. cell x j) e in
      (same, subst Canonical (sym (same ∙ cell_row t i j l)) (h.canonical (12 * i + j) (omega (arith, h.inside))))

  pub cells_read : (s ≡ row t i) × CanonicalTo 12 s
  cells_read = (e, λ j l. (cell_read l).1)

-- the loop's first four columns are the sums, the others as they were
pub entering_filled : (s k : List ℕ) → length s ≡ 12 → (out : List ℕ) (m : ℕ) → m ≡ 4
    → out ≡ filled m (λ j. add (cell s j) (cell k j)) s → out ≡ plus_first 4 s k
unfolding plus_first
entering_filled s k size out m q f =
    f
    ∙ ap (λ x. filled x sum s) q
    ∙ tab_unique 12 (filled 4 sum s) (λ j. choose (ltb j 4) (sum j) (cell s j))
    (length_filled 4 sum s (omega arith) ∙ size) (λ j l. same j (dec_lt j 4))
  where
    sum : ℕ → ℕ
    sum j = add (cell s j) (cell k j)

    same : (j : ℕ) → Dec (j < 4) → cell (filled 4 sum s) j ≡ choose (ltb j 4) (sum j) (cell s j)
    same j (yes h) = filled_before 4 sum s j h ∙ rw (lt-ltb j 4 h)
    same j (no h) = filled_after 4 sum s j (omega arith) ∙ rw (le-ltb j 4 (omega arith))

-- they can be added where only these columns were computed
plus_columns : (s k : List ℕ) → plus_first 4 (columns 4 s) k ≡ columns 4 (plus_first 4 s k)
plus_columns s k =
    same_cells 12 (plus_first 4 (columns 4 s) k) (columns 4 (plus_first 4 s k))
    (length_first 4 (columns 4 s) k) (length_columns 4 (plus_first 4 s k)) (λ j h. go j h (dec_lt j 4))
  where
    go : (j : ℕ) → j < 12 → Dec (j < 4) → cell (plus_first 4 (columns 4 s) k) j ≡ cell (columns 4 (plus_first 4 s k)) j
    go j h (yes l) =
        cell_plus_first 4 (columns 4 s) k j h l
        ∙ ap (λ x. add x (cell k j)) (cell_before 4 s j h l)
        ∙ sym (cell_before 4 (plus_first 4 s k) j h l ∙ cell_plus_first 4 s k j h l)
    go j h (no l) =
        cell_plus_kept 4 (columns 4 s) k j h (omega arith)
        ∙ cell_beyond 4 s j h (omega arith)
        ∙ sym (cell_beyond 4 (plus_first 4 s k) j h (omega arith))

-- ---- forward and back from their parts
module _ (T t : List ℕ) (i : ℕ) {r : ℕ} (q : r ≡ round i) {s : List ℕ} (at_row : s ≡ row t i) where
  second_made : (k : ℕ) {n : List ℕ} → n ≡ columns k (second_step T r s)
      → n ≡ columns k (second_step T (round i) (row t i))
  second_made k e = e ∙ ap (columns k) (ap₂ (second_step T) q at_row)

  pub forward_plain : entering i ≡ false → {n : List ℕ} → n ≡ columns 12 (second_step T r s)
      → n ≡ columns (tested_columns i) (forward T t i)
  unfolding forward
  forward_plain b e = rw b (second_made 12 e)

  pub forward_entering : entering i ≡ true → {n : List ℕ} → n ≡ columns 4 (second_step T r s)
      → {out : List ℕ} → out ≡ plus_first 4 n (initial_constant T) → out ≡ columns (tested_columns i) (forward T t i)
  unfolding forward
  forward_entering b e f =
      rw b
      (f
      ∙ ap (λ x. plus_first 4 x (initial_constant T)) (second_made 4 e)
      ∙ plus_columns (second_step T (round i) (row t i)) (initial_constant T))

  pub back_made : {out : List ℕ} → out ≡ back_step T r s → out ≡ back T t i
  unfolding back
  back_made e = e ∙ ap₂ (back_step T) q at_row

pub second_canonical : (k : ℕ) (T : List ℕ) (r : ℕ) (s : List ℕ) {n : List ℕ} → n ≡ columns k (second_step T r s) →
    CanonicalTo 12 n
second_canonical k T r s e j l = subst (λ x. Canonical (cell x j)) (sym e)
    (subst Canonical (sym (cell_columns k (second_step T r s) j l)) (go (ltb j k)))
  where
    go : (b : Bool) → Canonical (choose b (cell (second_step T r s) j) 0)
    go true = state_cell (second_step_state T r s) j
    go false = omega arith
