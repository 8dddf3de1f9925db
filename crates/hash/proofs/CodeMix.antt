-- M made ready, as the code has it: times 2^128, for which cubes and roots make up, that come divided by it.
-- Assumes nothing.
use mathlib.Core.Path.{◌≡◌, refl, sym, ap, ◌∙◌}
use mathlib.Core.List.{List}
use Prim.Native.Nat.{ℕ, ◌*◌, ◌%◌, ◌<◌}
use native.Mathlib.Nat.{mul-one, mod-mod, mod-eq_of_lt}
use native.Mathlib.Omega.{arith}
use Rattle.lists.specs.Lists.{cell, tab}
use Rattle.lists.proofs.Tab.{cell_tab}
use Rattle.field.specs.Field.{P, mul, cube, root}
use Rattle.field.specs.MontgomeryHelpers.{unit_inverse, unit_square, divided}
use Rattle.field.proofs.Forms.{divided_lt}
use Rattle.field.proofs.Fermat.{root_lt}
use Rattle.field.proofs.Modular.{mul_mod_l, mul_mod_r, mul_undone}
use Rattle.field_words.specs.Words.{CanonicalTo}
use Rattle.field_roots.proofs.Scaled.{root_scaled}
use Rattle.matrix.specs.Matrix.{times_column}
use Rattle.matrix_ready.specs.MixingHelpers.{ready_entry}
use Rattle.table.specs.ReadyHelpers.{ready_matrix}
use Rattle.table.proofs.ReadyLaws.{ready_times}
use Rattle.hash.specs.Hash.{roots, cubes, mix}
use Rattle.hash.specs.HashHelpers.{montgomery_cube}

-- ---- modulo p, where j is the inverse of 2^64

-- x^3 / 2^128, in one piece
pub form_flat : (p j x : ℕ) → ((x * x * j) % p * x * j) % p ≡ (x * x * x * (j * j)) % p
form_flat p j x = ap (λ z. z % p) (turned ((x * x * j) % p)) ∙ mul_mod_l p (x * x * j) (x * j) ∙ ap (λ z. z % p) spread
  where
    turned : (a : ℕ) → a * x * j ≡ a * (x * j)
    turned a = omega arith

    spread : x * x * j * (x * j) ≡ x * x * x * (j * j)
    spread = omega arith

-- and u is 2^128
cube_term : (p j u x : ℕ) → (j * j * u) % p ≡ 1 → (((x * x * j) % p * x * j) % p * u) % p ≡ ((x * x) % p * x) % p
cube_term p j u x one =
    ap (λ z. (z * u) % p) (form_flat p j x)
    ∙ mul_mod_l p (x * x * x * (j * j)) u
    ∙ ap (λ z. z % p) turned
    ∙ sym (mul_mod_r p (x * x * x) (j * j * u))
    ∙ ap (λ z. (x * x * x * z) % p) one
    ∙ ap (λ z. z % p) (mul-one (x * x * x))
    ∙ sym (mul_mod_l p (x * x) x)
  where
    turned : x * x * x * (j * j) * u ≡ x * x * x * (j * j * u)
    turned = omega arith

unit_term : (p f u r : ℕ) → ((f * r) % p * u) % p ≡ (r * (f * u)) % p
unit_term p f u r = mul_mod_l p (f * r) u ∙ ap (λ z. z % p) turned
  where
    turned : f * r * u ≡ r * (f * u)
    turned = omega arith

-- the factor of the roots, and times 2^128
abbrev pub root_factor : ℕ
root_factor = 678424015035724853

abbrev root_unit : ℕ
root_unit = root_factor * unit_square

root_term : (s : ℕ) → s < P → (mul root_factor (root (divided s)) * unit_square) % P ≡ root s
root_term s h =
    unit_term P root_factor unit_square (root (divided s))
    ∙ root_scaled (divided s) root_unit s (divided_lt s)
    (mul_undone P unit_inverse (root_unit * root_unit * root_unit) s refl h)

-- ---- the products
module _ (T ready x r : List ℕ) (e : ready ≡ ready_matrix T)
    (er : r ≡ tab 12 (times_column 12 (ready_entry ready) (cell x))) (s : List ℕ) where
  pub mixed_cubes : x ≡ tab 12 (λ j. montgomery_cube (cell s j)) → r ≡ mix T (cubes s)
  unfolding mix cubes
  mixed_cubes ex =
      er ∙ ready_times T ready e x (cubes s)
      (λ j h. ap (λ v. (v * unit_square) % P) (ap (λ l. cell l j) ex ∙ cell_tab 12 (λ i. montgomery_cube (cell s i)) j h)
      ∙ cube_term P unit_inverse unit_square (cell s j) refl
      ∙ sym (ap (λ v. v % P) (cell_tab 12 (λ i. cube (cell s i)) j h) ∙ mod-mod _ P))

  pub mixed_roots : CanonicalTo 12 s → x ≡ tab 12 (λ j. mul root_factor (root (divided (cell s j))))
      → r ≡ mix T (roots s)
  unfolding mix roots
  mixed_roots h ex =
      er ∙ ready_times T ready e x (roots s)
      (λ j l. ap (λ v. (v * unit_square) % P)
      (ap (λ q. cell q j) ex ∙ cell_tab 12 (λ i. mul root_factor (root (divided (cell s i)))) j l)
      ∙ root_term (cell s j) (h j l)
      ∙ sym (ap (λ v. v % P) (cell_tab 12 (λ i. root (cell s i)) j l) ∙ mod-eq_of_lt (root_lt (cell s j))))
