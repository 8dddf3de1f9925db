-- The second step, and the first step undone, from the cells that the loops store.
-- Assumes nothing.
use mathlib.Core.Path.{◌≡◌, refl, sym, ap, ◌∙◌, subst}
use mathlib.Core.List.{List}
use Prim.Native.Nat.{ℕ, ◌≤◌, ◌<◌}
use native.Mathlib.Omega.{arith}
use native.Mathlib.Decide.{dec_lt}
use borrow.Author.Tests.{lt-ltb, le-ltb}
use lib.Dec.{ltb}
use lib.ListN.{length, replicate, get_or-replicate}
use Rattle.lists.specs.Lists.{choose, cell, tab}
use Rattle.lists.proofs.Tab.{length_tab, cell_tab, tab_ext, tab_unique, filled}
use Rattle.lists.proofs.Tab.{filled_before, filled_after, length_filled}
use Rattle.field.specs.Field.{add, cube}
use Rattle.matrix.specs.Matrix.{times_column, times}
use Rattle.matrix.proofs.States.{cell_times}
use Rattle.matrix_ready.specs.MixingHelpers.{IsReady, ready_entry}
use Rattle.matrix_ready.proofs.ReadyWords.{is_ready}
use Rattle.table.specs.Table.{inverse_of, first_step_constant, second_step_constant}
use Rattle.table.specs.ReadyHelpers.{ready_matrix}
use Rattle.hash.specs.Hash.{cubes, plus, second_step}
use Rattle.hash.specs.HashHelpers.{montgomery_cube}
use Rattle.hash.proofs.CodeMix.{mixed_cubes}
use Rattle.check_constraints.specs.Constraints.{minus, back_step}
use Rattle.check_steps.specs.StepHelpers.{back_ready, columns, back_scale}
use Rattle.check_steps.proofs.Scales.{back_cell}

-- the inverse made ready
pub back_is : (T ready : List ℕ) → ready ≡ back_ready T → IsReady ready
unfolding back_ready
back_is T ready e = subst IsReady (sym e) (is_ready (inverse_of T) back_scale)

-- a matrix made ready times a column
abbrev pub mixed_by : List ℕ → List ℕ → List ℕ
mixed_by ready x = tab 12 (times_column 12 (ready_entry ready) (cell x))

-- ---- the first columns of a state
pub length_columns : (n : ℕ) (s : List ℕ) → length (columns n s) ≡ 12
unfolding columns
length_columns n s = length_tab 12 _

pub cell_columns : (n : ℕ) (s : List ℕ) (j : ℕ) → j < 12 → cell (columns n s) j ≡ choose (ltb j n) (cell s j) 0
unfolding columns
cell_columns n s j h = cell_tab 12 (λ i. choose (ltb i n) (cell s i) 0) j h

pub cell_before : (n : ℕ) (s : List ℕ) (j : ℕ) → j < 12 → j < n → cell (columns n s) j ≡ cell s j
cell_before n s j h l = cell_columns n s j h ∙ rw (lt-ltb j n l) refl

pub cell_beyond : (n : ℕ) (s : List ℕ) (j : ℕ) → j < 12 → n ≤ j → cell (columns n s) j ≡ 0
cell_beyond n s j h l = cell_columns n s j h ∙ rw (le-ltb j n l) refl

-- a loop that stores the first n
columns_filled : (n : ℕ) → n ≤ 12 → (f : ℕ → ℕ) → filled n f (replicate 12 0) ≡ columns n (tab 12 f)
unfolding columns
columns_filled n hn f =
    tab_unique 12 (filled n f (replicate 12 0)) (λ j. choose (ltb j n) (cell (tab 12 f) j) 0)
    (length_filled n f (replicate 12 0) hn) (λ j h. go j h (dec_lt j n))
  where
    go : (j : ℕ) → j < 12 → Dec (j < n) → cell (filled n f (replicate 12 0)) j ≡ choose (ltb j n) (cell (tab 12 f) j) 0
    go j h (yes l) = filled_before n f (replicate 12 0) j l ∙ sym (cell_tab 12 f j h) ∙ rw (lt-ltb j n l) refl
    go j h (no l) =
        filled_after n f (replicate 12 0) j (omega arith)
        ∙ get_or-replicate 12 j 0 0 h
        ∙ rw (le-ltb j n (omega arith)) refl

-- ---- the second step

pub second_made : (T ready s cubed mixed out : List ℕ) (round count : ℕ) → count ≤ 12
    → ready ≡ ready_matrix T → cubed ≡ tab 12 (λ j. montgomery_cube (cell s j)) → mixed ≡ mixed_by ready cubed
    → out ≡ filled count (λ i. add (cell mixed i) (cell (second_step_constant T round) i)) (replicate 12 0)
    → out ≡ columns count (second_step T round s)
unfolding second_step plus
second_made T ready s cubed mixed out round count hc er ec em e =
    e
    ∙ columns_filled count hc (λ i. add (cell mixed i) (cell (second_step_constant T round) i))
    ∙ ap (λ x. columns count (tab 12 (λ i. add (cell x i) (cell (second_step_constant T round) i))))
    (mixed_cubes T ready cubed mixed er em s ec)

-- ---- the first step undone
pub undone_made : (T ready s k less mixed out : List ℕ) (round : ℕ) → ready ≡ back_ready T
    → k ≡ first_step_constant T round → less ≡ minus s k → mixed ≡ mixed_by ready less
    → out ≡ tab 12 (λ j. montgomery_cube (cell mixed j)) → out ≡ back_step T round s
unfolding back_step cubes back_ready
undone_made T ready s k less mixed out round er ek el em e =
    e
    ∙ tab_ext 12 (λ j. montgomery_cube (cell mixed j)) (λ i. cube (cell (times (inverse_of T) less) i)) same
    ∙ ap (λ x. cubes (times (inverse_of T) x)) (el ∙ ap (minus s) ek)
  where
    same : (i : ℕ) → i < 12 → montgomery_cube (cell mixed i) ≡ cube (cell (times (inverse_of T) less) i)
    same i h =
        ap montgomery_cube
        (ap (λ x. cell x i) em ∙ cell_tab 12 (times_column 12 (ready_entry ready) (cell less)) i h)
        ∙ back_cell (inverse_of T) ready er (cell less) i h
        ∙ ap cube (sym (cell_times (inverse_of T) less i h))
