-- M made ready: its products are M's times 2^128, which tells M's own; and where the column's cells make up for it,
-- they are M's own.
-- Assumes nothing.
use mathlib.Core.Path.{◌≡◌, refl, sym, ap, ◌∙◌, subst}
use mathlib.Core.Bool.{Bool, true, false}
use mathlib.Core.List.{List}
use Prim.Native.Nat.{ℕ, ◌*◌, ◌%◌, ◌<◌}
use Rattle.lists.specs.Lists.{choose, cell, tab}
use Rattle.lists.proofs.Tab.{tab_ext}
use Rattle.field.specs.Field.{P}
use Rattle.field.specs.MontgomeryHelpers.{unit_square}
use Rattle.field.proofs.Modular.{mul_undone}
use Rattle.matrix.specs.Matrix.{entry, product, times_column, times}
use Rattle.matrix.proofs.Linear.{product_column}
use Rattle.matrix_ready.specs.MixingHelpers.{IsReady, ready_entry}
use Rattle.matrix_ready.proofs.ReadyWords.{is_ready}
use Rattle.matrix_ready.proofs.Scaled.{column_scaled, column_restored}
use Rattle.table.specs.Table.{matrix_of}
use Rattle.table.specs.ReadyHelpers.{matrix_scale, ready_matrix}

module _ (t r : List ℕ) (e : r ≡ ready_matrix t) where
  pub ready_is : IsReady r
  unfolding ready_matrix
  ready_is = subst IsReady (sym e) (is_ready (matrix_of t) matrix_scale)

  pub product_scaled : (n : ℕ → ℕ → ℕ) (i k : ℕ) → i < 12
      → product 12 (ready_entry r) n i k ≡ (product 12 (entry (matrix_of t)) n i k * unit_square) % P
  unfolding ready_matrix
  product_scaled n i k hi =
      product_column 12 (ready_entry r) n i k
      ∙ column_scaled (matrix_of t) r matrix_scale e (λ j. n j k) i hi
      ∙ ap (λ z. (z * unit_square) % P) (sym (product_column 12 (entry (matrix_of t)) n i k))

  pub ready_times : (x y : List ℕ) → ((j : ℕ) → j < 12 → (cell x j * unit_square) % P ≡ cell y j % P)
      → tab 12 (times_column 12 (ready_entry r) (cell x)) ≡ times (matrix_of t) y
  unfolding ready_matrix times
  ready_times x y h =
      tab_ext 12 (times_column 12 (ready_entry r) (cell x)) (times_column 12 (entry (matrix_of t)) (cell y))
      (column_restored (matrix_of t) r matrix_scale e (cell x) (cell y) h)

-- ---- a number times 2^128 tells the number
pub unit_cancel : (x y : ℕ) → x < P → y < P → (x * unit_square) % P ≡ (y * unit_square) % P → x ≡ y
unit_cancel x y hx hy e = sym (back x hx) ∙ ap (λ z. (z * inverse) % P) e ∙ back y hy
  where
    inverse : ℕ
    inverse = 2269818589034999915

    back : (z : ℕ) → z < P → ((z * unit_square) % P * inverse) % P ≡ z
    back z = mul_undone P unit_square inverse z refl

pub unit_diagonal : (b : Bool) → choose b unit_square 0 ≡ (choose b 1 0 * unit_square) % P
unit_diagonal true = refl
unit_diagonal false = refl
