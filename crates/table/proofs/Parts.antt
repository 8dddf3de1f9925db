-- The parts of a prepared table: their lengths, cells and canonical words.
-- Assumes nothing.
use Prim.Native.Nat.{ℕ, ◌+◌, ◌*◌, ◌≤◌, ◌<◌}
use mathlib.Core.Path.{◌≡◌}
use mathlib.Core.List.{List}
use native.Mathlib.Omega.{arith}
use lib.ListN.{length, take, drop}
use Rattle.lists.specs.Lists.{cell}
use Rattle.lists.proofs.Tab.{length_part, cell_part}
use Rattle.field_words.specs.Words.{AllCanonical}
use Rattle.matrix.specs.Matrix.{matrix_words}
use Rattle.table.specs.Table.{table_words, matrix_of, inverse_of, constant}

pub part_canonical : (t : List ℕ) (base size : ℕ) → base + size ≤ length t → AllCanonical t
    → AllCanonical (take size (drop base t))
part_canonical t base size h c i l =
    rw (cell_part t base size i (omega (arith, length_part t base size h)))
    (c (base + i) (omega (arith, length_part t base size h)))

-- ---- M, its inverse and the constants
module _ (t : List ℕ) (size : length t ≡ table_words) where
  pub length_matrix : length (matrix_of t) ≡ matrix_words
  unfolding matrix_of
  length_matrix = length_part t 0 matrix_words (omega arith)

  pub length_inverse : length (inverse_of t) ≡ matrix_words
  unfolding inverse_of
  length_inverse = length_part t matrix_words matrix_words (omega arith)

  pub length_constant : (n : ℕ) → n ≤ 20 → length (constant t n) ≡ 12
  unfolding constant
  length_constant n h = length_part t (2 * matrix_words + 12 * n) 12 (omega arith)

  module _ (canonical : AllCanonical t) where
    pub matrix_canonical : AllCanonical (matrix_of t)
    unfolding matrix_of
    matrix_canonical = part_canonical t 0 matrix_words (omega arith) canonical

    pub inverse_canonical : AllCanonical (inverse_of t)
    unfolding inverse_of
    inverse_canonical = part_canonical t matrix_words matrix_words (omega arith) canonical

    pub constant_canonical : (n : ℕ) → n ≤ 20 → AllCanonical (constant t n)
    unfolding constant
    constant_canonical n h = part_canonical t (2 * matrix_words + 12 * n) 12 (omega arith) canonical

pub cell_constant : (t : List ℕ) (n i : ℕ) → i < 12 → cell (constant t n) i ≡ cell t (2 * matrix_words + 12 * n + i)
unfolding constant
cell_constant t n i h = cell_part t (2 * matrix_words + 12 * n) 12 i h
