-- Request 2 (document 02, U2): the multiplier's temporary buffer. After every step there is one word below p, equal in
-- the field to the part of the product gathered so far, and the multiplier means what it meant before. Of what stands
-- inside a step nothing is said.
-- Assumes nothing.
use Rattle.std.specs.Prelude.{◌≡◌, ℕ, ◌*◌, ◌%◌, ◌^◌, ◌≤◌}
use Rattle.field.specs.Field.{P, Canonical, mul}
use Rattle.field.specs.Gathering.{product_word, product_part, form_word, form_part}
use Rattle.numbers.specs.Numbers.{width}
use Rattle.field_sums.specs.Sums.{step_terms, sum_steps, weight, sum_word, sum_part}
use Rattle.matrix.specs.Matrix.{times_column}

pub record Request2 : Type 0 where
  -- ---- the field's product, a step for each of three digits of b, the top one first (`field_elements::append`)
  pub product_gathers : (a b i : ℕ) → Canonical a → Canonical b → i ≤ 3
      → Canonical (product_word a b i) × (product_word a b i ≡ product_part a b i % P)
  pub product_means : (a b : ℕ) → Canonical a → Canonical b → product_word a b 3 ≡ mul a b
  -- ---- the product in Montgomery's form, which divides by 2^64, and by which powers and cubes are computed, matrices
  -- made ready and rows eliminated: a step for each of two digits of b, the lower one first (`field_montgomery::gather`)
  pub form_gathers : (a b i : ℕ) → Canonical a → Canonical b → i ≤ 2
      → Canonical (form_word a b i) × ((2 ^ (32 * i) * form_word a b i) % P ≡ form_part a b i % P)
  pub form_means : (a b : ℕ) → Canonical a → Canonical b → (2 ^ 64 * form_word a b 2) % P ≡ mul a b
  -- ---- the sum of the twelve products of a row and a column, a step for each two of them (`matrix_ready::add_two_columns`)
  pub sum_gathers : (x y : ℕ → ℕ) (j : ℕ) → j ≤ sum_steps
      → Canonical (sum_word x y j) × (sum_word x y j ≡ (weight (step_terms * j) * sum_part x y j) % P)
  pub sum_means : (a : ℕ → ℕ → ℕ) (y : ℕ → ℕ) (i : ℕ) → sum_word (a i) y sum_steps ≡ times_column width a y i
