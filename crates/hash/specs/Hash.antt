-- The Rescue hash and the chain (document 01, "Hash and chain"; Rescue STARK documentation 1.0, Algorithm 1).
-- A state is a list of twelve cells, T is a prepared table.
-- Assumes nothing.
use Rattle.std.specs.Prelude.{List, ◌++◌, ℕ, zero, suc, ◌*◌, take, drop, replicate}
use Rattle.lists.specs.Lists.{cell, tab}
use Rattle.field.specs.Field.{add, cube, root}
use Rattle.numbers.specs.Numbers.{width, tap_words}
use Rattle.matrix.specs.Matrix.{times}
use Rattle.table.specs.Table.{matrix_of, initial_constant, first_step_constant, second_step_constant}

-- every cell rooted, every cell cubed, and two states added cell by cell
unfoldable pub roots : List ℕ → List ℕ
roots s = tab width (λ j. root (cell s j))

unfoldable pub cubes : List ℕ → List ℕ
cubes s = tab width (λ j. cube (cell s j))

unfoldable pub plus : List ℕ → List ℕ → List ℕ
plus s u = tab width (λ j. add (cell s j) (cell u j))

-- multiplied by M
unfoldable pub mix : List ℕ → List ℕ → List ℕ
mix T s = times (matrix_of T) s

-- the first step of round r, to its middle state: root every cell, multiply by M, add its constant
unfoldable pub first_step : List ℕ → ℕ → List ℕ → List ℕ
first_step T r s = plus (mix T (roots s)) (first_step_constant T r)

-- the second step, from the middle state on: cube every cell, multiply by M, add its constant
unfoldable pub second_step : List ℕ → ℕ → List ℕ → List ℕ
second_step T r s = plus (mix T (cubes s)) (second_step_constant T r)

-- the state before round r, from the input (Algorithm 1, State_r): K_0 is added before round 0
unfoldable pub state_at : List ℕ → List ℕ → ℕ → List ℕ
state_at T s zero = plus s (initial_constant T)
state_at T s (suc r) = second_step T r (first_step T r (state_at T s r))

-- the middle state of round r (Algorithm 1, Inter_r)
unfoldable pub middle_state : List ℕ → List ℕ → ℕ → List ℕ
middle_state T s r = first_step T r (state_at T s r)

-- the final state, after round 9 (Algorithm 1, State_10): what Hash returns (document 02, U3), whose cells 0 to 3 the
-- chain goes on with, and row 31 of a batch
unfoldable pub final_state : List ℕ → List ℕ → List ℕ
final_state T s = state_at T s 10

-- the input of a hash: two taps and four zeros
unfoldable pub input : List ℕ → List ℕ → List ℕ
input a b = a ++ b ++ replicate 4 0

-- Hash(a, b), as document 01 and the chain take it: cells 0 to 3 of the final state (document 02, U3)
unfoldable pub hash : List ℕ → List ℕ → List ℕ → List ℕ
hash T a b = take 4 (final_state T (input a b))

-- ---- the chain. w is a list of taps, four words each

-- w_n
unfoldable pub tap : List ℕ → ℕ → List ℕ
tap w n = take 4 (drop (4 * n) w)

-- the last output before hash h: w_0, then Hash(.. Hash(w_0, w_1) .., w_h)
unfoldable pub output_at : List ℕ → List ℕ → ℕ → List ℕ
output_at T w zero = tap w 0
output_at T w (suc h) = hash T (output_at T w h) (tap w (suc h))

-- a list of 3k + 1 taps chains to the output of its 3k hashes (Rescue STARK documentation 1.0, equation (1))
unfoldable pub chain : List ℕ → List ℕ → ℕ → List ℕ
chain T w k = output_at T w (3 * k)

-- the first 3c + 1 taps of a list, to whose output a claim about c batches belongs (document 02, U6)
unfoldable pub first_taps : ℕ → List ℕ → List ℕ
first_taps c w = take (tap_words c) w
