-- A weight and the power that undoes it: the entries of a matrix made ready, with and without their weights.
-- Assumes nothing.
use Prim.Native.Nat.{ℕ, zero, suc, ◌+◌, ◌*◌, ◌-◌, ◌%◌, ◌^◌}
use mathlib.Core.Path.{◌≡◌, refl, sym, ap, ap₂, ◌∙◌}
use native.Mathlib.Nat.{pow-suc, one-mul}
use native.Mathlib.Omega.{arith}
use lib.Pow.{pow-add}
use Rattle.field.specs.Field.{P}
use Rattle.field.specs.Gathering.{half_inverse}
use Rattle.field.specs.MontgomeryHelpers.{half, unit_inverse, times_word}
use Rattle.field.proofs.Modular.{mul_mod_l, mul_mod_r}
use Rattle.field_sums.specs.Sums.{weight}

-- what undoes the weight of the term j
abbrev pub undoing : ℕ → ℕ
undoing j = half_inverse ^ (12 - j)

powers : (n : ℕ) → (2 ^ (32 * n) * half_inverse ^ n) % P ≡ 1
powers zero = refl
powers (suc n) =
    ap (λ z. z % P) (split (2 ^ (32 * n)) (half_inverse ^ n) e (pow-suc half_inverse n))
    ∙ sym (mul_mod_l P (half * half_inverse) (2 ^ (32 * n) * half_inverse ^ n))
    ∙ ap (λ z. z % P) (one-mul (2 ^ (32 * n) * half_inverse ^ n))
    ∙ powers n
  where
    e : 2 ^ (32 * suc n) ≡ half * 2 ^ (32 * n)
    e = ap (λ k. 2 ^ k) k ∙ pow-add 2 32 (32 * n)
      where
        k : 32 * suc n ≡ 32 + 32 * n
        k = omega arith

    split : {u v : ℕ} (a b : ℕ) → u ≡ half * a → v ≡ b * half_inverse → u * v ≡ half * half_inverse * (a * b)
    split a b p q = ap₂ ◌*◌ p q ∙ omega arith

weight_undone : (j : ℕ) → (weight j * undoing j) % P ≡ 1
unfolding weight
weight_undone j = powers (12 - j)

-- a product that has both
without : (j n : ℕ) → (weight j * undoing j * n) % P ≡ n % P
without j n =
    sym (mul_mod_l P (weight j * undoing j) n)
    ∙ ap (λ z. (z * n) % P) (weight_undone j)
    ∙ ap (λ z. z % P) (one-mul n)

-- the weight, given to a word that was rid of it
pub weighted_again : (j b : ℕ) → weight j * (b * undoing j % P) % P ≡ b % P
weighted_again j b =
    mul_mod_r P (weight j) (b * undoing j) ∙ ap (λ z. z % P) (turned (weight j) (undoing j)) ∙ without j b
  where
    turned : (w v : ℕ) → w * (b * v) ≡ w * v * b
    turned w v = omega arith

-- a product in the form with a weighted scale, rid of the weight
pub scale_unweighted : (j a s : ℕ) → times_word a (weight j * s % P) * undoing j % P ≡ times_word a s
unfolding times_word
scale_unweighted j a s =
    mul_mod_l P (a * (weight j * s % P) * unit_inverse) (undoing j)
    ∙ ap (λ z. z % P) (turned a (weight j * s % P) unit_inverse (undoing j))
    ∙ mul_mod_l P (weight j * s) (a * unit_inverse * undoing j)
    ∙ ap (λ z. z % P) (joined (weight j) s a unit_inverse (undoing j))
    ∙ without j (a * s * unit_inverse)
  where
    turned : (x y u v : ℕ) → x * y * u * v ≡ y * (x * u * v)
    turned x y u v = omega arith

    joined : (w y x u v : ℕ) → w * y * (x * u * v) ≡ w * v * (x * y * u)
    joined w y x u v = omega arith
