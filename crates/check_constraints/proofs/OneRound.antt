-- One step there and back, on states of twelve canonical cells: `back_step` undoes `first_step`, and `first_step` undoes
-- `back_step`.
-- Assumes nothing.
use mathlib.Core.Path.{◌≡◌, ap, ◌∙◌}
use mathlib.Core.List.{List}
use Prim.Native.Nat.{ℕ, ◌<◌}
use native.Mathlib.Nat.{mod-lt}
use native.Mathlib.Omega.{arith}
use Rattle.lists.specs.Lists.{cell}
use Rattle.lists.proofs.Tab.{cell_tab}
use Rattle.field.specs.Field.{add, sub, cube, root}
use Rattle.field.proofs.Fermat.{cube_root, root_cube}
use Rattle.field.proofs.Ring.{sub_add, add_sub}
use Rattle.matrix.specs.Matrix.{times}
use Rattle.table.specs.Table.{IsTable, matrix_of, inverse_of}
use Rattle.table.proofs.Theorems.{undo_mix, mix_undo}
use Rattle.hash.specs.Hash.{roots, cubes, plus, mix, first_step}
use Rattle.hash.proofs.States.{IsState, state_cell, same_state, tab_state, roots_state, cubes_state, plus_state}
use Rattle.hash.proofs.States.{times_state, cell_roots, cell_cubes, cell_plus, first_constant_state}
use Rattle.check_constraints.specs.Constraints.{minus, back_step}

-- ---- addition and subtraction
pub minus_state : (s k : List ℕ) → IsState (minus s k)
unfolding minus
minus_state s k = tab_state _ (λ j h. mod-lt _ (omega arith))

pub cell_minus : (s k : List ℕ) (j : ℕ) → j < 12 → cell (minus s k) j ≡ sub (cell s j) (cell k j)
unfolding minus
cell_minus s k j h = cell_tab 12 _ j h

pub plus_minus : {s k : List ℕ} → IsState s → IsState k → plus (minus s k) k ≡ s
plus_minus {s} {k} p q =
    same_state (plus_state (minus s k) k) p
    (λ j h. cell_plus (minus s k) k j h
    ∙ ap (λ x. add x (cell k j)) (cell_minus s k j h)
    ∙ sub_add (cell s j) (cell k j) (state_cell p j) (state_cell q j))

pub minus_plus : {s k : List ℕ} → IsState s → IsState k → minus (plus s k) k ≡ s
minus_plus {s} {k} p q =
    same_state (minus_state (plus s k) k) p
    (λ j h. cell_minus (plus s k) k j h
    ∙ ap (λ x. sub x (cell k j)) (cell_plus s k j h)
    ∙ add_sub (cell s j) (cell k j) (state_cell p j) (state_cell q j))

-- ---- cubes and roots
pub cubes_roots : {s : List ℕ} → IsState s → cubes (roots s) ≡ s
cubes_roots {s} p =
    same_state (cubes_state (roots s)) p
    (λ j h. cell_cubes (roots s) j h ∙ ap cube (cell_roots s j h) ∙ cube_root (cell s j) (state_cell p j))

pub roots_cubes : {s : List ℕ} → IsState s → roots (cubes s) ≡ s
roots_cubes {s} p =
    same_state (roots_state (cubes s)) p
    (λ j h. cell_roots (cubes s) j h ∙ ap root (cell_cubes s j h) ∙ root_cube (cell s j) (state_cell p j))

-- ---- any step: f of a state, times M, plus a constant k; and g undoes f
module _ (T : List ℕ) (accepted : IsTable T) {k : List ℕ} (constant : IsState k) (f g : List ℕ → List ℕ) where
  pub step_undone : {s : List ℕ} → IsState (f s) → g (f s) ≡ s
      → g (times (inverse_of T) (minus (plus (times (matrix_of T) (f s)) k) k)) ≡ s
  step_undone {s} p e =
      ap (λ x. g (times (inverse_of T) x)) (minus_plus (times_state (matrix_of T) (f s)) constant)
      ∙ ap g (undo_mix T accepted (f s) p.size (λ i l. state_cell p i))
      ∙ e

  pub undone_step : {x : List ℕ} → IsState x
      → f (g (times (inverse_of T) (minus x k))) ≡ times (inverse_of T) (minus x k)
      → plus (times (matrix_of T) (f (g (times (inverse_of T) (minus x k))))) k ≡ x
  undone_step {x} p e =
      ap (λ y. plus (times (matrix_of T) y) k) e
      ∙ ap (λ y. plus y k)
      (mix_undo T accepted (minus x k) (minus_state x k).size (λ i l. state_cell (minus_state x k) i))
      ∙ plus_minus p constant

-- ---- the first step of round r
pub back_step_state : (T : List ℕ) (r : ℕ) (s : List ℕ) → IsState (back_step T r s)
unfolding back_step
back_step_state T r s = cubes_state _

module _ (T : List ℕ) (accepted : IsTable T) (r : ℕ) (h : r < 10) where
  pub back_first : {s : List ℕ} → IsState s → back_step T r (first_step T r s) ≡ s
  unfolding back_step first_step mix
  back_first {s} p =
      step_undone T accepted (first_constant_state T accepted r h) roots cubes (roots_state s) (cubes_roots p)

  pub first_back : {x : List ℕ} → IsState x → first_step T r (back_step T r x) ≡ x
  unfolding back_step first_step mix
  first_back {x} p =
      undone_step T accepted (first_constant_state T accepted r h) roots cubes p (roots_cubes (times_state _ _))
