-- The field of p = 2^61 + 20 × 2^32 + 1 elements (document 01, "The field").
-- Assumes nothing.
use Rattle.std.specs.Prelude.{◌≡◌, refl, ℕ, zero, suc, ◌+◌, ◌*◌, ◌-◌, ◌/◌, ◌%◌, ◌^◌, ◌<◌}

-- p, and that the numeral is what document 01 writes beside it
abbrev pub P : ℕ
P = 2305843095113039873

pub p_as_written : P ≡ 2 ^ 61 + 20 * 2 ^ 32 + 1
p_as_written = refl

pub p_as_multiple : P ≡ 134217733 * 2 ^ 34 + 1
p_as_multiple = refl

-- a word is canonical when below p
abbrev pub Canonical : ℕ → Type 0
Canonical x = x < P

abbrev pub add : ℕ → ℕ → ℕ
add a b = (a + b) % P

-- the element that b is added to for a
abbrev pub sub : ℕ → ℕ → ℕ
sub a b = (a + (P - b)) % P

abbrev pub neg : ℕ → ℕ
neg a = (P - a) % P

abbrev pub mul : ℕ → ℕ → ℕ
mul a b = (a * b) % P

abbrev pub square : ℕ → ℕ
square x = mul x x

abbrev pub cube : ℕ → ℕ
cube x = mul (square x) x

-- from h, which is x^e, the power x^(2e) at digit 0 and x^(2e+1) at digit 1
abbrev pub double : ℕ → ℕ → ℕ → ℕ
double x zero h = square h
double x (suc d) h = mul (square h) x

-- x^e by halving e as often as the first argument says: x^0 is 1, x^(2e) is the square of x^e, x^(2e+1) is that times x
unfoldable pub halving : ℕ → ℕ → ℕ → ℕ
halving zero x e = 1
halving (suc n) x e = double x (e % 2) (halving n x (e / 2))

-- x^e for an exponent of 64 bits, which 64 halvings bring to 0
unfoldable pub power : ℕ → ℕ → ℕ
power x e = halving 64 x e

-- (2p − 1) / 3
abbrev pub third : ℕ
third = 1537228730075359915

pub third_as_written : 3 * third ≡ 2 * P - 1
third_as_written = refl

unfoldable pub root : ℕ → ℕ
root x = power x third

-- the inverse of a non-zero element (proofs/Fermat.antt, `inverse_law`)
unfoldable pub inverse : ℕ → ℕ
inverse x = power x (P - 2)
