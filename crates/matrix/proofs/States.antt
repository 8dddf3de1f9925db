-- States of twelve cells under a 12 × 12 matrix: their cells, and that a matrix and its inverse undo each other in both
-- orders.
-- Assumes nothing.
use Prim.Native.Nat.{ℕ, ◌<◌}
use mathlib.Core.Path.{◌≡◌, refl, sym, ◌∙◌}
use mathlib.Core.List.{List}
use lib.ListN.{length}
use Rattle.lists.specs.Lists.{cell}
use Rattle.lists.proofs.Tab.{cell_tab, tab_unique}
use Rattle.field.specs.Field.{Canonical}
use Rattle.matrix.specs.Matrix.{times_column, entry, times, Inverse}
use Rattle.matrix.proofs.Linear.{times_ext, undo}
use Rattle.matrix.proofs.Dichotomy.{other_side}

pub cell_times : (m s : List ℕ) (i : ℕ) → i < 12 → cell (times m s) i ≡ times_column 12 (entry m) (cell s) i
unfolding times
cell_times m s i h = cell_tab 12 (times_column 12 (entry m) (cell s)) i h

pub times_undo : (m n : List ℕ) → Inverse 12 (entry m) (entry n) → (s : List ℕ) → length s ≡ 12
    → ((i : ℕ) → i < 12 → Canonical (cell s i)) → times m (times n s) ≡ s
unfolding times
times_undo m n h s e c = sym (tab_unique 12 s (times_column 12 (entry m) (cell (times n s))) e (λ i l. sym (same i l)))
  where
    same : (i : ℕ) → i < 12 → times_column 12 (entry m) (cell (times n s)) i ≡ cell s i
    same i l =
        times_ext 12 (entry m) (entry m) (cell (times n s)) (times_column 12 (entry n) (cell s)) i (λ j k. refl)
        (λ j k. cell_times n s j k)
        ∙ undo 12 (entry m) (entry n) h (cell s) i l (c i l)

pub times_redo : (m n : List ℕ) → Inverse 12 (entry m) (entry n) → (s : List ℕ) → length s ≡ 12
    → ((i : ℕ) → i < 12 → Canonical (cell s i)) → times n (times m s) ≡ s
times_redo m n h = times_undo n m (other_side 12 (entry m) (entry n) h)
