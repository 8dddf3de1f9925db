-- Numbers joined by shifts and |, over any width: what stands above bit k, and k bits below it.
-- Assumes nothing.
use mathlib.Core.Path.{◌≡◌, ap, ◌∙◌}
use Prim.Native.Nat.{ℕ, ◌+◌, ◌*◌, ◌%◌, ◌^◌, ◌<◌}
use native.Mathlib.Nat.{mod-eq_of_lt}
use native.Mathlib.Omega.{arith}
use lib.Bits.{bit_or, or_shifted, or_shifted_r}

-- a shifted left by k in w bits loses nothing, and b stands below it
pub above : (w a k b : ℕ) → a * 2 ^ k < 2 ^ w → b < 2 ^ k → bit_or (a * 2 ^ k % 2 ^ w) b ≡ a * 2 ^ k + b
above w a k b fits low = ap (λ (x : ℕ). bit_or x b) (mod-eq_of_lt fits) ∙ or_shifted a k b low

pub below : (w a k b : ℕ) → a * 2 ^ k < 2 ^ w → b < 2 ^ k → bit_or b (a * 2 ^ k % 2 ^ w) ≡ a * 2 ^ k + b
below w a k b fits low = ap (λ (x : ℕ). bit_or b x) (mod-eq_of_lt fits) ∙ or_shifted_r a k b low

-- four bytes, low byte first
pub four : (a b c d : ℕ) → a < 2 ^ 8 → b < 2 ^ 8 → c < 2 ^ 8 → d < 2 ^ 8
    → bit_or (bit_or (bit_or a (b * 2 ^ 8 % 2 ^ 32)) (c * 2 ^ 16 % 2 ^ 32)) (d * 2 ^ 24 % 2 ^ 32)
    ≡ a + b * 2 ^ 8 + c * 2 ^ 16 + d * 2 ^ 24
four a b c d ha hb hc hd =
    ap (λ (x : ℕ). bit_or (bit_or x (c * 2 ^ 16 % 2 ^ 32)) (d * 2 ^ 24 % 2 ^ 32)) (below 32 b 8 a (omega arith) ha)
    ∙ ap (λ (x : ℕ). bit_or x (d * 2 ^ 24 % 2 ^ 32)) (below 32 c 16 (b * 2 ^ 8 + a) (omega arith) (omega arith))
    ∙ below 32 d 24 (c * 2 ^ 16 + (b * 2 ^ 8 + a)) (omega arith) (omega arith)
    ∙ sum
  where
    sum : d * 2 ^ 24 + (c * 2 ^ 16 + (b * 2 ^ 8 + a)) ≡ a + b * 2 ^ 8 + c * 2 ^ 16 + d * 2 ^ 24
    sum = omega arith
