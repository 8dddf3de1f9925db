-- The rows of a lent trace: their cells and length, and that a trace is determined by its rows.
-- Assumes nothing.
use mathlib.Core.Path.{◌≡◌, sym, ap, ◌∙◌}
use mathlib.Core.List.{List}
use Prim.Native.Nat.{ℕ, ◌+◌, ◌*◌, ◌/◌, ◌%◌, ◌≤◌, ◌<◌}
use native.Mathlib.Omega.{arith}
use lib.ListN.{length, drop, length-take, length-drop}
use lib.Seq.{get_or-take, get_or-drop}
use Rattle.lists.specs.Lists.{cell}
use Rattle.field_words.specs.Words.{AllCanonical}
use Rattle.hash.proofs.States.{IsState, cell_lt, same_cells}
use Rattle.trace.specs.Trace.{row}

pub cell_row : (t : List ℕ) (i j : ℕ) → j < 12 → cell (row t i) j ≡ cell t (12 * i + j)
unfolding row
cell_row t i j h = get_or-take 12 (drop (12 * i) t) j 0 h ∙ get_or-drop (12 * i) t j 0

pub length_row : (t : List ℕ) (i : ℕ) → 12 * i + 12 ≤ length t → length (row t i) ≡ 12
unfolding row
length_row t i h = length-take 12 (drop (12 * i) t) ∙ omega (arith, length-drop (12 * i) t)

pub row_state : (t : List ℕ) → AllCanonical t → (i : ℕ) → 12 * i + 12 ≤ length t → IsState (row t i)
row_state t a i h =
    let e = length_row t i h in
    record { size = e; canonical = λ j l. omega (arith, cell_row t i j (omega arith), cell_lt t a (12 * i + j)) }

-- two traces of n rows whose rows are the same are the same
pub same_rows : (n : ℕ) (s t : List ℕ) → length s ≡ 12 * n → length t ≡ 12 * n
    → ((i : ℕ) → i < n → row s i ≡ row t i) → s ≡ t
same_rows n s t p q h = same_cells (12 * n) s t p q same
  where
    same : (m : ℕ) → m < 12 * n → cell s m ≡ cell t m
    same m l =
        let e : 12 * (m / 12) + m % 12 ≡ m = omega arith in
        ap (cell s) (sym e)
        ∙ sym (cell_row s (m / 12) (m % 12) (omega arith))
        ∙ ap (λ r. cell r (m % 12)) (h (m / 12) (omega arith))
        ∙ cell_row t (m / 12) (m % 12) (omega arith)
        ∙ ap (cell t) e
