-- Under the table S every round moves each cell two places on, so that ten rounds bring the second tap to the front,
-- and the first to the end.
-- Assumes nothing.
use mathlib.Core.Path.{◌≡◌, refl, sym, ap, ◌∙◌}
use mathlib.Core.List.{List, ◌++◌}
use Prim.Native.Nat.{ℕ, zero, suc, ◌+◌, ◌*◌, ◌/◌, ◌%◌, ◌<◌}
use native.Mathlib.Nat.{mod-lt, mod-eq_of_lt, one-mul, zero-mul}
use native.Mathlib.Omega.{arith}
use borrow.Author.Tests.{eq-eqb, ne_eqb}
use lib.Dec.{eqb}
use lib.ListN.{length, drop, replicate, length-append, length-replicate, get_or-replicate, get_or-append}
use lib.Seq.{get_or-take, get_or-drop, get_or-append-add}
use Rattle.lists.specs.Lists.{choose, cell}
use Rattle.lists.proofs.Tab.{length_tab, cell_tab}
use Rattle.lists.proofs.Sum.{sum_one}
use Rattle.field.specs.Field.{P, add, cube, root}
use Rattle.field.proofs.Fermat.{cube_root}
use Rattle.matrix.specs.Matrix.{entry, times_column}
use Rattle.matrix.proofs.States.{cell_times}
use Rattle.matrix.specs.Matrix.{matrix_words}
use Rattle.table.specs.Table.{matrix_of, constant, initial_constant, first_step_constant, second_step_constant}
use Rattle.hash.specs.Hash.{roots, cubes, plus, mix, first_step, second_step, state_at, middle_state, final_state}
use Rattle.hash.specs.Hash.{input}
use Rattle.hash.proofs.States.{IsState, state_cell, same_cells, cell_roots, cell_cubes, cell_plus, roots_state}
use Rattle.hash.proofs.States.{cubes_state, state_at_state, final_state_state, state_at_zero, state_at_suc}
use Rattle.hash.proofs.Inputs.{IsTap, by_fours, cell_input_left, cell_input_right, cell_input_zeros, input_state}
use Rattle.known_days.specs.Days.{shifted, S}

-- ---- the table's words
length_shifted : (shift : ℕ) → length (shifted shift) ≡ 144
unfolding shifted
length_shifted shift = length_tab 144 (λ n. choose (eqb (n % 12) ((n / 12 + shift) % 12)) 1 0)

S_matrix : (n : ℕ) → n < 144 → cell S n ≡ choose (eqb (n % 12) ((n / 12 + 11) % 12)) 1 0
unfolding S shifted
S_matrix n h =
    get_or-append (shifted 11 ++ shifted 1) (replicate 252 0) 0 n
    (omega (arith, length-append (shifted 11) (shifted 1), length_shifted 11))
    ∙ get_or-append (shifted 11) (shifted 1) 0 n (omega (arith, length_shifted 11))
    ∙ cell_tab 144 (λ m. choose (eqb (m % 12) ((m / 12 + 11) % 12)) 1 0) n h

zeros_cell : (m i : ℕ) → cell (replicate m 0) i ≡ 0
zeros_cell zero zero = refl
zeros_cell zero (suc i) = refl
zeros_cell (suc m) zero = refl
zeros_cell (suc m) (suc i) = zeros_cell m i

S_constants : (n : ℕ) → cell S (2 * matrix_words + n) ≡ 0
unfolding S
S_constants n =
    ap (λ k. cell (shifted 11 ++ shifted 1 ++ replicate 252 0) k) e
    ∙ get_or-append-add (shifted 11 ++ shifted 1) (replicate 252 0) n 0
    ∙ zeros_cell 252 n
  where
    e : 2 * matrix_words + n ≡ length (shifted 11 ++ shifted 1) + n
    e = omega (arith, length-append (shifted 11) (shifted 1), length_shifted 11, length_shifted 1)

constant_zero : (n j : ℕ) → j < 12 → cell (constant S n) j ≡ 0
unfolding constant
constant_zero n j h =
    get_or-take 12 (drop (2 * matrix_words + 12 * n) S) j 0 h
    ∙ get_or-drop (2 * matrix_words + 12 * n) S j 0
    ∙ ap (cell S) e
    ∙ S_constants (12 * n + j)
  where
    e : 2 * matrix_words + 12 * n + j ≡ 2 * matrix_words + (12 * n + j)
    e = omega arith

initial_zero : (j : ℕ) → j < 12 → cell (initial_constant S) j ≡ 0
unfolding initial_constant
initial_zero = constant_zero 0

first_zero : (r j : ℕ) → j < 12 → cell (first_step_constant S r) j ≡ 0
unfolding first_step_constant
first_zero r = constant_zero (2 * r + 1)

second_zero : (r j : ℕ) → j < 12 → cell (second_step_constant S r) j ≡ 0
unfolding second_step_constant
second_zero r = constant_zero (2 * r + 2)

S_entry : (i j : ℕ) → i < 12 → j < 12 → entry (matrix_of S) i j ≡ choose (eqb j ((i + 11) % 12)) 1 0
unfolding matrix_of
S_entry i j hi hj =
    get_or-take 144 S (12 * i + j) 0 (omega arith)
    ∙ S_matrix (12 * i + j) (omega arith)
    ∙ ap (λ c. choose (eqb c (((12 * i + j) / 12 + 11) % 12)) 1 0) p
    ∙ ap (λ r. choose (eqb j ((r + 11) % 12)) 1 0) q
  where
    p : (12 * i + j) % 12 ≡ j
    p = omega arith

    q : (12 * i + j) / 12 ≡ i
    q = omega arith

-- ---- M moves each cell one place on
mix_cell : (s : List ℕ) (i : ℕ) → i < 12 → cell (mix S s) i ≡ cell s ((i + 11) % 12) % P
unfolding mix times_column
mix_cell s i h =
    cell_times (matrix_of S) s i h
    ∙ ap (λ x. x % P)
    (sum_one 12 from (λ j. entry (matrix_of S) i j * cell s j) within others
    ∙ ap (λ x. x * cell s from) here
    ∙ one-mul (cell s from))
  where
    from : ℕ
    from = (i + 11) % 12

    within : from < 12
    within = mod-lt (i + 11) (omega arith)

    here : entry (matrix_of S) i from ≡ 1
    here = S_entry i from h within ∙ ap (λ b. choose b 1 0) (eq-eqb from from refl)

    others : (j : ℕ) → j < 12 → (j ≡ from → ⊥) → entry (matrix_of S) i j * cell s j ≡ 0
    others j hj ne =
        ap (λ x. x * cell s j) (S_entry i j h hj ∙ ap (λ b. choose b 1 0) (ne_eqb j from ne)) ∙ zero-mul (cell s j)

add_zero_constant : (x k : ℕ) → x < P → k ≡ 0 → add x k ≡ x
add_zero_constant x k h e = ap (λ y. (x + y) % P) e ∙ ap (λ y. y % P) z ∙ mod-eq_of_lt h
  where
    z : x + 0 ≡ x
    z = omega arith

-- one step: a cell function that gives canonical words, then M, then a constant of zeros
step_cell : (s k : List ℕ) (i : ℕ) → IsState s → i < 12 → cell k i ≡ 0
    → cell (plus (mix S s) k) i ≡ cell s ((i + 11) % 12)
step_cell s k i st h z =
    cell_plus (mix S s) k i h
    ∙ ap (λ x. add x (cell k i)) (mix_cell s i h ∙ mod-eq_of_lt (state_cell st ((i + 11) % 12)))
    ∙ add_zero_constant (cell s ((i + 11) % 12)) (cell k i) (state_cell st ((i + 11) % 12)) z

-- ---- a round moves each cell two places on
round_cell : (s : List ℕ) (r i : ℕ) → IsState s → i < 12
    → cell (second_step S r (first_step S r s)) i ≡ cell s ((i + 10) % 12)
unfolding first_step second_step
round_cell s r i st h =
    step_cell (cubes (first_step S r s)) (second_step_constant S r) i (cubes_state (first_step S r s)) h (second_zero r i h)
    ∙ cell_cubes (first_step S r s) j hj
    ∙ ap cube
    (step_cell (roots s) (first_step_constant S r) j (roots_state s) hj (first_zero r j hj)
    ∙ cell_roots s ((j + 11) % 12) (mod-lt (j + 11) (omega arith))
    ∙ ap (λ k. root (cell s k)) e)
    ∙ cube_root (cell s ((i + 10) % 12)) (state_cell st ((i + 10) % 12))
  where
    j : ℕ
    j = (i + 11) % 12

    hj : j < 12
    hj = mod-lt (i + 11) (omega arith)

    e : (j + 11) % 12 ≡ (i + 10) % 12
    e = omega arith

state_moved : (s : List ℕ) → IsState s → (r i : ℕ) → i < 12 → cell (state_at S s r) i ≡ cell s ((i + 10 * r) % 12)
unfolding middle_state
state_moved s st zero i h =
    ap (λ t. cell t i) (state_at_zero S s)
    ∙ cell_plus s (initial_constant S) i h
    ∙ add_zero_constant (cell s i) (cell (initial_constant S) i) (state_cell st i) (initial_zero i h)
    ∙ ap (cell s) e
  where
    e : i ≡ (i + 10 * 0) % 12
    e = omega arith
state_moved s st (suc r) i h = rec (state_moved s st r ((i + 10) % 12) (mod-lt (i + 10) (omega arith)))
  where
    rec : cell (state_at S s r) ((i + 10) % 12) ≡ cell s (((i + 10) % 12 + 10 * r) % 12)
        → cell (state_at S s (suc r)) i ≡ cell s ((i + 10 * suc r) % 12)
    rec ih =
        ap (λ t. cell t i) (state_at_suc S s r)
        ∙ round_cell (state_at S s r) r i (state_at_state S s r) h
        ∙ ih
        ∙ ap (cell s) e
      where
        e : ((i + 10) % 12 + 10 * r) % 12 ≡ (i + 10 * suc r) % 12
        e = omega arith

-- ---- so the final state is the second tap, four zeros and the first tap
pub final_turned : (a b : List ℕ) → IsTap a → IsTap b → final_state S (input a b) ≡ b ++ replicate 4 0 ++ a
unfolding final_state
final_turned a b ta tb =
    same_cells 12 (final_state S (input a b)) (b ++ replicate 4 0 ++ a) (final_state_state S (input a b)).size sized
    (by_fours (λ j. cell (final_state S (input a b)) j ≡ cell (b ++ replicate 4 0 ++ a) j) first second third)
  where
    zeros : length {A = ℕ} (replicate 4 0) ≡ 4
    zeros = length-replicate {A = ℕ} 4 0

    two : length (b ++ replicate 4 0) ≡ 8
    two = length-append b (replicate 4 0) ∙ omega (arith, tb.size, zeros)

    sized : length (b ++ replicate 4 0 ++ a) ≡ 12
    sized = length-append (b ++ replicate 4 0) a ∙ omega (arith, two, ta.size)

    -- cell i of the final state was at m in the input
    from : (i m : ℕ) → i < 12 → (i + 10 * 10) % 12 ≡ m → cell (final_state S (input a b)) i ≡ cell (input a b) m
    from i m h e = state_moved (input a b) (input_state ta tb) 10 i h ∙ ap (cell (input a b)) e

    front : (j : ℕ) → j < 8 → cell (b ++ replicate 4 0 ++ a) j ≡ cell (b ++ replicate 4 0) j
    front j h = get_or-append (b ++ replicate 4 0) a 0 j (omega (arith, two))

    first : (j : ℕ) → j < 4 → cell (final_state S (input a b)) j ≡ cell (b ++ replicate 4 0 ++ a) j
    first j h =
        from j (4 + j) (omega arith) (omega arith)
        ∙ cell_input_right ta tb j h
        ∙ sym (front j (omega arith) ∙ get_or-append b (replicate 4 0) 0 j (omega (arith, tb.size)))

    second : (j : ℕ) → j < 4 → cell (final_state S (input a b)) (4 + j) ≡ cell (b ++ replicate 4 0 ++ a) (4 + j)
    second j h =
        from (4 + j) (8 + j) (omega arith) (omega arith)
        ∙ cell_input_zeros ta tb j h
        ∙ sym
        (front (4 + j) (omega arith)
        ∙ ap (λ n. cell (b ++ replicate 4 0) (n + j)) (sym tb.size)
        ∙ get_or-append-add b (replicate 4 0) j 0
        ∙ get_or-replicate 4 j 0 0 h)

    third : (j : ℕ) → j < 4 → cell (final_state S (input a b)) (8 + j) ≡ cell (b ++ replicate 4 0 ++ a) (8 + j)
    third j h =
        from (8 + j) j (omega arith) (omega arith)
        ∙ cell_input_left ta tb j h
        ∙ sym
        (ap (λ n. cell (b ++ replicate 4 0 ++ a) (n + j)) (sym two)
        ∙ get_or-append-add (b ++ replicate 4 0) a j 0)
