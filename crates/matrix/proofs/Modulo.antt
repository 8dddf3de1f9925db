-- Sums and products modulo m depend only on the rests of their parts; and differences, with m - 1 for -1.
-- Assumes nothing.
use Prim.Native.Nat.{ℕ, zero, suc, ◌+◌, ◌*◌, ◌-◌, ◌%◌, ◌<◌}
use mathlib.Core.Path.{◌≡◌, refl, sym, ap, ap₂, ◌∙◌}
use native.Mathlib.Nat.{add-mod, zero-mod, zero-add, mul-mod_right, add-mul-mod_self_left}
use native.Mathlib.Omega.{arith}
use Rattle.lists.specs.Lists.{sum}
use Rattle.field.proofs.Modular.{mul_mod_l, mul_mod_r}

pub add_eq : (m a b c d : ℕ) → a % m ≡ b % m → c % m ≡ d % m → (a + c) % m ≡ (b + d) % m
add_eq m a b c d p q = add-mod a c m ∙ ap₂ (λ x y. (x + y) % m) p q ∙ sym (add-mod b d m)

pub mul_eq : (m a b c d : ℕ) → a % m ≡ b % m → c % m ≡ d % m → (a * c) % m ≡ (b * d) % m
mul_eq m a b c d p q =
    sym (mul_mod_l m a c)
    ∙ sym (mul_mod_r m (a % m) c)
    ∙ ap₂ (λ x y. (x * y) % m) p q
    ∙ mul_mod_r m (b % m) d
    ∙ mul_mod_l m b d

pub sum_eq : (m n : ℕ) (f g : ℕ → ℕ) → ((i : ℕ) → i < n → f i % m ≡ g i % m) → sum n f % m ≡ sum n g % m
unfolding sum
sum_eq m zero f g h = refl
sum_eq m (suc n) f g h =
    add_eq m (sum n f) (sum n g) (f n) (g n) (sum_eq m n f g (λ i l. h i (omega arith))) (h n (omega arith))

module _ (m : ℕ) (big : 1 < m) where
  pub whole : (y : ℕ) → y + (m - 1) * y ≡ m * y
  whole y = go m big
    where
      go : (k : ℕ) → 1 < k → y + (k - 1) * y ≡ k * y
      go zero h = absurd (omega arith)
      go (suc k) h = ap (λ d. y + d * y) p ∙ q
        where
          p : suc k - 1 ≡ k
          p = omega arith

          q : y + k * y ≡ suc k * y
          q = omega arith

  -- x - y is 0 exactly where x and y are the same
  pub minus : (x y : ℕ) → x % m ≡ y % m → (x + (m - 1) * y) % m ≡ 0
  minus x y e = add_eq m x y ((m - 1) * y) ((m - 1) * y) e refl ∙ ap (λ s. s % m) (whole y) ∙ mul-mod_right m y

  pub unminus : (x y : ℕ) → (x + (m - 1) * y) % m ≡ 0 → x % m ≡ y % m
  unminus x y e =
      sym (add-mul-mod_self_left x m y)
      ∙ ap (λ s. s % m) (ap (λ s. x + s) (sym (whole y)) ∙ q)
      ∙ add_eq m (x + (m - 1) * y) 0 y y (e ∙ sym (zero-mod m)) refl
      ∙ ap (λ s. s % m) (zero-add y)
    where
      q : x + (y + (m - 1) * y) ≡ x + (m - 1) * y + y
      q = omega arith
