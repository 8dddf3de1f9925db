-- The tables of the known days: the table test accepts them by computing, and with that Prepare writes them.
-- Assumes nothing.
use mathlib.Core.Path.{◌≡◌, refl, ap, ◌∙◌, subst}
use mathlib.Core.List.{List}
use Prim.Native.Nat.{ℕ, ◌+◌, ◌*◌, ◌%◌, ◌<◌}
use native.Mathlib.Omega.{arith}
use lib.ListN.{length, replicate, get_or-replicate}
use Rattle.std.specs.Prelude.{Ok}
use Rattle.lists.specs.Lists.{tab, sum, first}
use Rattle.lists.proofs.Sum.{all_0}
use Rattle.field.specs.Field.{P}
use Rattle.field_words.specs.Words.{first_bad}
use Rattle.matrix.specs.Matrix.{entry, times_column, product, Inverse, Kernel}
use Rattle.table.specs.Table.{table_words, matrix_of, inverse_of, unlike, first_unlike, table_test, IsTable, raw_matrix}
use Rattle.table.specs.Table.{RawInverse, prepared, raw_test, Prepares, accepts, no_inverse}
use Rattle.table.proofs.Theorems.{test_sound, inverse_length, inverse_canonical}
use Rattle.known_days.specs.Days.{shifted, raw_z, raw_a, raw_s, raw_zeros, Z, A, S, KnownTables}

-- ---- the table test
pub accepted_Z : table_test Z ≡ Ok tt
unfolding tab sum first first_bad product matrix_of inverse_of unlike first_unlike table_test shifted Z
accepted_Z = refl

pub accepted_A : table_test A ≡ Ok tt
unfolding tab sum first first_bad product matrix_of inverse_of unlike first_unlike table_test shifted Z A
accepted_A = refl

pub accepted_S : table_test S ≡ Ok tt
unfolding tab sum first first_bad product matrix_of inverse_of unlike first_unlike table_test shifted S
accepted_S = refl

-- ---- a table that passes it is what Prepare writes for the raw one with its M and K
module _ (raw T : List ℕ) (tested : raw_test raw table_words ≡ Ok tt) (table : table_test T ≡ Ok tt)
    (matrix : matrix_of T ≡ raw_matrix raw) (whole : prepared raw (inverse_of T) ≡ T) where
  is_table : IsTable T
  is_table = test_sound T table

  inverse : RawInverse raw (inverse_of T)
  inverse = record {
    size = inverse_length T is_table;
    canonical = inverse_canonical T is_table;
    inverse = subst (λ m. Inverse 12 (entry m) (entry (inverse_of T))) matrix is_table.inverse;
  }

  prepare : (old : List ℕ) → length old ≡ table_words → Prepares raw old (Ok tt) T
  prepare old size =
      subst (Prepares raw old (Ok tt)) whole
      (accepts (inverse_of T) (ap (raw_test raw) size ∙ tested) inverse)

-- ---- the zero M takes a column of ones to zeros
zeros_kernel : Kernel 12 (entry (replicate 144 0))
unfolding times_column
zeros_kernel = record {
  column = λ j. 1;
  canonical = λ j h. omega arith;
  place = 0;
  within = omega arith;
  nonzero = omega arith;
  zeros = λ i h. ap (λ s. s % P) (all_0 12 (λ j. entry (replicate 144 0) i j * 1) (each i h));
}
  where
    each : (i : ℕ) → i < 12 → (j : ℕ) → j < 12 → entry (replicate 144 0) i j * 1 ≡ 0
    each i h j l = ap (λ x. x * 1) (get_or-replicate 144 (12 * i + j) 0 0 (omega arith))

pub known_tables : KnownTables
unfolding tab first first_bad matrix_of inverse_of raw_test shifted raw_z raw_a raw_s raw_zeros Z A S
known_tables = record {
  prepare_Z = prepare raw_z Z refl accepted_Z refl refl;
  prepare_A = prepare raw_a A refl accepted_A refl refl;
  prepare_S = prepare raw_s S refl accepted_S refl refl;
  prepare_zeros = λ old size. no_inverse (ap (raw_test raw_zeros) size) zeros_kernel;
  accepted_Z = accepted_Z;
  accepted_A = accepted_A;
  accepted_S = accepted_S;
}
