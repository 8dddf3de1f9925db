-- Products reduced while they are gathered (document 02, U2): the one word that there is after each step, and the part
-- of the product that was gathered by then.
-- Assumes nothing.
use Rattle.std.specs.Prelude.{ℕ, zero, suc, ◌+◌, ◌*◌, ◌-◌, ◌/◌, ◌%◌, ◌^◌}
use Rattle.field.specs.Field.{P}

-- ---- a × b, by the digits of b from the top
-- digit i of b, of three of 21 bits, the top one first
abbrev pub upper_digit : ℕ → ℕ → ℕ
upper_digit b i = b / 2 ^ (21 * (2 - i)) % 2 ^ 21

-- a step: the word moved up by a digit, plus a times the next digit
abbrev pub appended : ℕ → ℕ → ℕ → ℕ
appended word a digit = (2 ^ 21 * word + a * digit) % P

-- the word after i steps
unfoldable pub product_word : ℕ → ℕ → ℕ → ℕ
product_word a b zero = 0
product_word a b (suc i) = appended (product_word a b i) a (upper_digit b i)

-- the part gathered after i steps: a times what the upper i digits of b make up
abbrev pub product_part : ℕ → ℕ → ℕ → ℕ
product_part a b i = a * (b / 2 ^ (21 * (3 - i)))

-- ---- a × b / 2^64, which is the product in Montgomery's form, by the digits of b from below
-- digit i of b, of two of 32 bits, the lowest first
abbrev pub lower_digit : ℕ → ℕ → ℕ
lower_digit b i = b / 2 ^ (32 * i) % 2 ^ 32

-- 1 / 2^32 modulo p, which is p − (p − 1) / 2^32 (proofs/Steps.antt, `inverse_of_half`)
abbrev pub half_inverse : ℕ
half_inverse = 2305843094576168941

-- v / 2^32
abbrev pub lowered : ℕ → ℕ
lowered v = (v * half_inverse) % P

-- a step: the word plus a times the next digit, divided by 2^32
abbrev pub gathered : ℕ → ℕ → ℕ → ℕ
gathered word a digit = lowered (word + a * digit)

-- the word after i steps
unfoldable pub form_word : ℕ → ℕ → ℕ → ℕ
form_word a b zero = 0
form_word a b (suc i) = gathered (form_word a b i) a (lower_digit b i)

-- the part gathered after i steps, at the scale 2^(32 i): a times what the lower i digits of b make up
abbrev pub form_part : ℕ → ℕ → ℕ → ℕ
form_part a b i = a * (b % 2 ^ (32 * i))
