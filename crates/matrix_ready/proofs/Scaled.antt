-- A matrix made ready with a scale: its products are the matrix's own, times the scale divided by 2^64.
-- Assumes nothing.
use Prim.Native.Nat.{ℕ, ◌*◌, ◌%◌, ◌<◌}
use mathlib.Core.Path.{◌≡◌, refl, sym, ap, ◌∙◌}
use mathlib.Core.List.{List}
use native.Mathlib.Omega.{arith}
use Rattle.lists.specs.Lists.{sum}
use Rattle.lists.proofs.Sum.{sum_mul_r}
use Rattle.field.specs.Field.{P}
use Rattle.field.specs.MontgomeryHelpers.{divided}
use Rattle.field.proofs.Forms.{times_scaled}
use Rattle.field.proofs.Modular.{mul_mod_l}
use Rattle.matrix.specs.Matrix.{entry, times_column}
use Rattle.matrix.proofs.Modulo.{mul_eq, sum_eq}
use Rattle.matrix_ready.specs.MixingHelpers.{ready, ready_entry}
use Rattle.matrix_ready.proofs.ReadyWords.{ready_entry_lem}

module _ (m r : List ℕ) (scale : ℕ) (e : r ≡ ready m scale) where
  entry_scaled : (i j : ℕ) → i < 12 → j < 12 → ready_entry r i j ≡ (entry m i j * divided scale) % P
  entry_scaled i j hi hj =
      ap (λ q. ready_entry q i j) e ∙ ready_entry_lem m scale i j hi hj ∙ times_scaled (entry m i j) scale

  term_scaled : (i j x : ℕ) → i < 12 → j < 12 → (ready_entry r i j * x) % P ≡ (entry m i j * x * divided scale) % P
  term_scaled i j x hi hj =
      ap (λ u. (u * x) % P) (entry_scaled i j hi hj)
      ∙ mul_mod_l P (entry m i j * divided scale) x
      ∙ ap (λ z. z % P) (turned (entry m i j) (divided scale))
    where
      turned : (a b : ℕ) → a * b * x ≡ a * x * b
      turned a b = omega arith

  pub column_scaled : (x : ℕ → ℕ) (i : ℕ) → i < 12
      → times_column 12 (ready_entry r) x i ≡ (times_column 12 (entry m) x i * divided scale) % P
  unfolding times_column
  column_scaled x i hi =
      sum_eq P 12 (λ j. ready_entry r i j * x j) (λ j. entry m i j * x j * divided scale)
      (λ j l. term_scaled i j (x j) hi l)
      ∙ ap (λ z. z % P) (sum_mul_r 12 (divided scale) (λ j. entry m i j * x j))
      ∙ sym (mul_mod_l P (sum 12 (λ j. entry m i j * x j)) (divided scale))

  -- where the column's cells make up for the scale
  pub column_restored : (x y : ℕ → ℕ) → ((j : ℕ) → j < 12 → (x j * divided scale) % P ≡ y j % P) → (i : ℕ) → i < 12
      → times_column 12 (ready_entry r) x i ≡ times_column 12 (entry m) y i
  unfolding times_column
  column_restored x y h i hi =
      sum_eq P 12 (λ j. ready_entry r i j * x j) (λ j. entry m i j * y j)
      (λ j l. term_scaled i j (x j) hi l
      ∙ ap (λ z. z % P) (grouped (entry m i j) (x j))
      ∙ mul_eq P (entry m i j) (entry m i j) (x j * divided scale) (y j) refl (h j l))
    where
      grouped : (a b : ℕ) → a * b * divided scale ≡ a * (b * divided scale)
      grouped a b = go (divided scale)
        where
          go : (c : ℕ) → a * b * c ≡ a * (b * c)
          go c = omega arith
