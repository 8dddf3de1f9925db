-- States: every step of the hash gives twelve canonical cells, and each cell of its result is given.
-- Assumes nothing.
use mathlib.Core.Path.{◌≡◌, refl, sym, ◌∙◌}
use mathlib.Core.List.{List}
use Prim.Native.Nat.{ℕ, zero, suc, ◌<◌}
use native.Mathlib.Nat.{mod-lt}
use native.Mathlib.Decide.{dec_lt}
use native.Mathlib.Omega.{arith}
use lib.ListN.{length, get_or-eq_default}
use lib.Seq.{ext_get_or}
use Rattle.lists.specs.Lists.{cell, tab}
use Rattle.lists.proofs.Tab.{length_tab, cell_tab}
use Rattle.field.specs.Field.{P, add, cube, root}
use Rattle.field.proofs.Fermat.{root_lt}
use Rattle.field_words.specs.Words.{AllCanonical}
use Rattle.matrix.specs.Matrix.{times_column, times}
use Rattle.table.specs.Table.{IsTable, initial_constant, first_step_constant, second_step_constant}
use Rattle.table.proofs.Theorems.{initial_length, initial_canonical, first_step_length, first_step_canonical}
use Rattle.table.proofs.Theorems.{second_step_length, second_step_canonical}
use Rattle.hash.specs.Hash.{roots, cubes, plus, first_step, second_step, state_at, middle_state, final_state}

-- twelve canonical cells
pub record IsState (s : List ℕ) : Type 0 where
  pub size : length s ≡ 12
  pub canonical : AllCanonical s

-- a cell of a canonical list is canonical, also past the end, where it is 0
pub cell_lt : (s : List ℕ) → AllCanonical s → (j : ℕ) → cell s j < P
cell_lt s a j = go (dec_lt j (length s))
  where
    go : Dec (j < length s) → cell s j < P
    go (yes h) = a j h
    go (no h) = omega (arith, get_or-eq_default s 0 {n = j} (omega arith))

pub state_cell : {s : List ℕ} → IsState s → (j : ℕ) → cell s j < P
state_cell {s} a j = cell_lt s a.canonical j

-- two states with the same cells are equal
pub same_cells : (n : ℕ) (a b : List ℕ) → length a ≡ n → length b ≡ n → ((j : ℕ) → j < n → cell a j ≡ cell b j) → a ≡ b
same_cells n a b p q h = ext_get_or 0 a b (p ∙ sym q) (λ j l. h j (omega arith))

pub same_state : {a b : List ℕ} → IsState a → IsState b → ((j : ℕ) → j < 12 → cell a j ≡ cell b j) → a ≡ b
same_state {a} {b} p q h = same_cells 12 a b p.size q.size h

pub tab_state : (f : ℕ → ℕ) → ((j : ℕ) → j < 12 → f j < P) → IsState (tab 12 f)
tab_state f h = record { size = length_tab 12 f; canonical = λ j l. low j (omega (arith, length_tab 12 f)) }
  where
    low : (j : ℕ) → j < 12 → cell (tab 12 f) j < P
    low j l = omega (arith, cell_tab 12 f j l, h j l)

-- ---- the steps of the hash
pub roots_state : (s : List ℕ) → IsState (roots s)
unfolding roots
roots_state s = tab_state _ (λ j h. root_lt (cell s j))

pub cubes_state : (s : List ℕ) → IsState (cubes s)
unfolding cubes
cubes_state s = tab_state _ (λ j h. mod-lt _ (omega arith))

pub plus_state : (s k : List ℕ) → IsState (plus s k)
unfolding plus
plus_state s k = tab_state _ (λ j h. mod-lt _ (omega arith))

pub times_state : (m s : List ℕ) → IsState (times m s)
unfolding times times_column
times_state m s = tab_state _ (λ j h. mod-lt _ (omega arith))

pub first_step_state : (T : List ℕ) (r : ℕ) (s : List ℕ) → IsState (first_step T r s)
unfolding first_step
first_step_state T r s = plus_state _ _

pub second_step_state : (T : List ℕ) (r : ℕ) (s : List ℕ) → IsState (second_step T r s)
unfolding second_step
second_step_state T r s = plus_state _ _

pub state_at_state : (T s : List ℕ) (r : ℕ) → IsState (state_at T s r)
unfolding state_at
state_at_state T s zero = plus_state _ _
state_at_state T s (suc r) = second_step_state _ _ _

pub middle_state_state : (T s : List ℕ) (r : ℕ) → IsState (middle_state T s r)
unfolding middle_state
middle_state_state T s r = first_step_state _ _ _

pub final_state_state : (T s : List ℕ) → IsState (final_state T s)
unfolding final_state
final_state_state T s = state_at_state T s 10

-- ---- their cells
pub cell_roots : (s : List ℕ) (j : ℕ) → j < 12 → cell (roots s) j ≡ root (cell s j)
unfolding roots
cell_roots s j h = cell_tab 12 _ j h

pub cell_cubes : (s : List ℕ) (j : ℕ) → j < 12 → cell (cubes s) j ≡ cube (cell s j)
unfolding cubes
cell_cubes s j h = cell_tab 12 _ j h

pub cell_plus : (s k : List ℕ) (j : ℕ) → j < 12 → cell (plus s k) j ≡ add (cell s j) (cell k j)
unfolding plus
cell_plus s k j h = cell_tab 12 _ j h

-- ---- the constants of an accepted table
pub initial_state : (T : List ℕ) → IsTable T → IsState (initial_constant T)
initial_state T a = record { size = initial_length T a; canonical = initial_canonical T a }

pub first_constant_state : (T : List ℕ) → IsTable T → (r : ℕ) → r < 10 → IsState (first_step_constant T r)
first_constant_state T a r h = record { size = first_step_length T a r h; canonical = first_step_canonical T a r h }

pub second_constant_state : (T : List ℕ) → IsTable T → (r : ℕ) → r < 10 → IsState (second_step_constant T r)
second_constant_state T a r h = record { size = second_step_length T a r h; canonical = second_step_canonical T a r h }

-- ---- the middle state of each round, and the state after it
pub state_at_zero : (T s : List ℕ) → state_at T s 0 ≡ plus s (initial_constant T)
unfolding state_at
state_at_zero T s = refl

pub state_at_suc : (T s : List ℕ) (r : ℕ) → state_at T s (suc r) ≡ second_step T r (middle_state T s r)
unfolding state_at middle_state
state_at_suc T s r = refl
