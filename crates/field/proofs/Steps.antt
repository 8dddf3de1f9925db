-- One word below p after every step: what settles a wrapped difference, and what divides by 2^32.
-- Assumes nothing.
use Prim.Native.Nat.{ℕ, zero, suc, ◌+◌, ◌*◌, ◌-◌, ◌/◌, ◌%◌, ◌^◌, ◌<◌}
use mathlib.Core.Path.{◌≡◌, refl, sym, ap, ◌∙◌}
use native.Mathlib.Nat.{add-zero, add-mul-mod_self_left, mod-eq_of_lt}
use native.Mathlib.Omega.{arith}
use lib.Bits.{bit_and}
use Rattle.field.specs.Field.{P, sub}
use Rattle.field.specs.Gathering.{half_inverse, lowered}
use Rattle.field.specs.MontgomeryHelpers.{half, quotient}
use Rattle.field.proofs.Modular.{mod_unique, mul_mod_l}

-- numbers that differ by multiples of m
pub same : (m x y u v : ℕ) → x + m * u ≡ y + m * v → x % m ≡ y % m
same m x y u v e = sym (add-mul-mod_self_left x m u) ∙ ap (λ z. z % m) e ∙ add-mul-mod_self_left y m v

-- a word times a digit, by the halves of the word
pub halves : (v d : ℕ) → v * d ≡ half * (v / half * d) + v % half * d
halves v d = go (v / half) (v % half) (omega arith)
  where
    go : (h l : ℕ) → v ≡ half * h + l → v * d ≡ half * (h * d) + l * d
    go h l e = ap (λ z. z * d) e ∙ omega arith

inverse_of_half : (half * half_inverse) % P ≡ 1
inverse_of_half = refl

-- ---- a wrapped difference: its two upper bits are both clear or both set
once : (x : ℕ) → x < P → (x + P) % 2 ^ 64 % P ≡ x
once x h = ap (λ z. z % P) (mod-eq_of_lt low) ∙ mod_unique P (x + P) x 1 (omega arith) h
  where
    low : x + P < 2 ^ 64
    low = omega arith

pub settled : (x n r : ℕ) → x < 2 ^ 64 → (x + P) % 2 ^ 64 < 2 * P → n < 2 ^ 64
    → (n + x / 4611686018427387904) % 2 ^ 64 ≡ 0 → r ≡ (x + bit_and n P) % 2 ^ 64 → r ≡ (x + P) % 2 ^ 64 % P
settled x n r hx h hn en er = go (x / 4611686018427387904) refl
  where
    kept : n ≡ 0 → x < P → r ≡ (x + P) % 2 ^ 64 % P
    kept z low =
        er
        ∙ ap (λ k. (x + bit_and k P) % 2 ^ 64) z
        ∙ ap (λ y. y % 2 ^ 64) (add-zero x)
        ∙ mod-eq_of_lt hx
        ∙ sym (once x low)

    raised : n ≡ 18446744073709551613 → (x + P) % 2 ^ 64 < P → r ≡ (x + P) % 2 ^ 64 % P
    raised z low = er ∙ ap (λ k. (x + bit_and k P) % 2 ^ 64) z ∙ sym (mod-eq_of_lt low)

    go : (k : ℕ) → x / 4611686018427387904 ≡ k → r ≡ (x + P) % 2 ^ 64 % P
    go zero q = kept (omega arith) (omega arith)
    go (suc zero) q = absurd (omega arith)
    go (suc (suc zero)) q = absurd (omega arith)
    go (suc (suc (suc zero))) q = raised (omega arith) (omega arith)
    go (suc (suc (suc (suc k)))) q = absurd (omega arith)

-- y less w, by a difference that wraps
pub unwrapped : (x y w : ℕ) → x < 2 ^ 64 → y < 2 * P → w < P → (x + w) % 2 ^ 64 ≡ y → (x + P) % 2 ^ 64 ≡ y + (P - w)
unwrapped x y w hx hy hw e = omega arith

pub above_zero : (y w : ℕ) → y < P → y + (P - w) < 2 * P
above_zero y w h = omega arith

-- ---- the division by 2^32
pub lowered_same : (u v : ℕ) → u % P ≡ v % P → lowered u ≡ lowered v
lowered_same u v e = sym (mul_mod_l P u half_inverse) ∙ ap lowered e ∙ mul_mod_l P v half_inverse

pub low_product : (t q : ℕ) → q ≡ quotient → t % half * q ≡ t % half * 536870932
low_product t q e = ap (λ k. t % half * k) e

step_at : (y l : ℕ) → l < half → (y + (P - l * 536870932)) % P ≡ ((half * y + l) * half_inverse) % P
step_at y l h =
    same P (y + (P - l * 536870932)) ((half * y + l) * half_inverse) (4294967295 * y + l) 1 (omega arith)

pub step_law : (t more : ℕ) → sub (t / half + more) (t % half * 536870932) ≡ lowered (t + half * more)
step_law t more = step_at (t / half + more) (t % half) (omega arith) ∙ ap lowered e
  where
    e : half * (t / half + more) + t % half ≡ t + half * more
    e = omega arith
