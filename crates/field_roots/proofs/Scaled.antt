-- A root times g is the root of the number times g^3.
-- Assumes nothing.
use Prim.Native.Nat.{ℕ, ◌*◌, ◌%◌, ◌<◌}
use mathlib.Core.Path.{◌≡◌, sym, ap, ◌∙◌}
use native.Mathlib.Nat.{mod-lt}
use native.Mathlib.Omega.{arith}
use Rattle.field.specs.Field.{P, root}
use Rattle.field.proofs.Modular.{mul_mod_l, cube_mod}
use Rattle.field.proofs.Fermat.{root_unique, cube_root}

module _ (p : ℕ) where
  -- the cube of a product, modulo p
  cube_product : (r g : ℕ) → ((r * g % p * (r * g % p)) % p * (r * g % p)) % p ≡ ((r * r % p * r) % p * (g * g * g)) % p
  cube_product r g =
      flat (r * g % p)
      ∙ cube_mod p (r * g)
      ∙ ap (λ z. z % p) spread
      ∙ sym (ap (λ z. (z * (g * g * g)) % p) (flat r) ∙ mul_mod_l p (r * r * r) (g * g * g))
    where
      flat : (x : ℕ) → ((x * x) % p * x) % p ≡ (x * x * x) % p
      flat x = mul_mod_l p (x * x) x

      spread : r * g * (r * g) * (r * g) ≡ r * r * r * (g * g * g)
      spread = omega arith

pub root_scaled : (x g y : ℕ) → x < P → (x * (g * g * g)) % P ≡ y → (root x * g) % P ≡ root y
root_scaled x g y h e =
    root_unique y ((root x * g) % P) (mod-lt _ (omega arith))
    (cube_product P (root x) g ∙ ap (λ z. (z * (g * g * g)) % P) (cube_root x h) ∙ e)
