-- The scale of the inverse makes up for cubes divided by 2^128: modulo p, each power of 2^64 meets its inverse.
-- Assumes nothing.
use Prim.Native.Nat.{ℕ, ◌*◌, ◌%◌, ◌<◌}
use mathlib.Core.Path.{◌≡◌, refl, sym, ap, ◌∙◌}
use mathlib.Core.List.{List}
use native.Mathlib.Nat.{mul-one}
use native.Mathlib.Omega.{arith}
use Rattle.field.specs.Field.{P, cube}
use Rattle.field.specs.MontgomeryHelpers.{divided, unit_inverse}
use Rattle.field.proofs.Modular.{mul_mod_l, mul_mod_r, cube_mod}
use Rattle.matrix.specs.Matrix.{entry, times_column}
use Rattle.matrix_ready.specs.MixingHelpers.{ready, ready_entry}
use Rattle.matrix_ready.proofs.Scaled.{column_scaled}
use Rattle.hash.specs.HashHelpers.{montgomery_cube}
use Rattle.hash.proofs.CodeMix.{form_flat}
use Rattle.check_steps.specs.StepHelpers.{back_scale}

-- modulo p, where j is the inverse of 2^64, and d a scale with d^3 j^2 = 1: such a cube of d n is the cube of n
back_cube : (p j d n : ℕ) → (d * d * d * (j * j)) % p ≡ 1 → let y = (n * d) % p in
    ((y * y * j) % p * y * j) % p ≡ ((n * n) % p * n) % p
back_cube p j d n one =
    form_flat p j y
    ∙ sym (mul_mod_l p (y * y * y) (j * j))
    ∙ ap (λ z. (z * (j * j)) % p) (cube_mod p (n * d))
    ∙ mul_mod_l p (n * d * (n * d) * (n * d)) (j * j)
    ∙ ap (λ z. z % p) gathered
    ∙ sym (mul_mod_r p (n * n * n) (d * d * d * (j * j)))
    ∙ ap (λ z. (n * n * n * z) % p) one
    ∙ ap (λ z. z % p) (mul-one (n * n * n))
    ∙ sym (mul_mod_l p (n * n) n)
  where
    y : ℕ
    y = (n * d) % p

    gathered : n * d * (n * d) * (n * d) * (j * j) ≡ n * n * n * (d * d * d * (j * j))
    gathered = omega arith

-- ---- a row of a matrix made ready with that scale, times x
pub back_cell : (m r : List ℕ) → r ≡ ready m back_scale → (x : ℕ → ℕ) (i : ℕ) → i < 12
    → montgomery_cube (times_column 12 (ready_entry r) x i) ≡ cube (times_column 12 (entry m) x i)
back_cell m r e x i h =
    ap montgomery_cube (column_scaled m r back_scale e x i h)
    ∙ back_cube P unit_inverse (divided back_scale) (times_column 12 (entry m) x i) refl
