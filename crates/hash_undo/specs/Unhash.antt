-- The hash undone (document 02, U5): the rounds from the last, each by its second step and then its first. A state is a
-- list of twelve cells, T is a prepared table.
-- Assumes nothing.
use Rattle.std.specs.Prelude.{Bool, ◌&&◌, List, ℕ, zero, suc, eqb, take}
use Rattle.lists.specs.Lists.{cell}
use Rattle.matrix.specs.Matrix.{times}
use Rattle.table.specs.Table.{inverse_of, initial_constant, second_step_constant}
use Rattle.hash.specs.Hash.{roots}
use Rattle.check_constraints.specs.Constraints.{minus, back_step}

-- the second step of round r undone, to its middle state: less its constant, times the inverse of M, every cell rooted
unfoldable pub second_step_undone : List ℕ → ℕ → List ℕ → List ℕ
second_step_undone T r s = roots (times (inverse_of T) (minus s (second_step_constant T r)))

-- round r undone: its second step, and then its first, less its constant, times the inverse of M, every cell cubed
unfoldable pub round_undone : List ℕ → ℕ → List ℕ → List ℕ
round_undone T r s = back_step T r (second_step_undone T r s)

-- rounds n - 1, .., 1, 0 undone, in this order
unfoldable pub rounds_undone : List ℕ → ℕ → List ℕ → List ℕ
rounds_undone T zero s = s
rounds_undone T (suc r) s = rounds_undone T r (round_undone T r s)

-- the input whose final state is s, under an accepted table: the ten rounds undone, less K_0
unfoldable pub input_before : List ℕ → List ℕ → List ℕ
input_before T s = minus (rounds_undone T 10 s) (initial_constant T)

-- its first eight cells, the two taps
unfoldable pub taps_before : List ℕ → List ℕ → List ℕ
taps_before T s = take 8 (input_before T s)

-- whether its last four cells are zero, as those of an input of two taps are
unfoldable pub ends_in_zeros : List ℕ → Bool
ends_in_zeros s = eqb (cell s 8) 0 && eqb (cell s 9) 0 && eqb (cell s 10) 0 && eqb (cell s 11) 0
