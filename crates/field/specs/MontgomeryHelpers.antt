-- Montgomery's form: the element that a word stands for, and the product of two words.
-- Assumes nothing.
use Rattle.std.specs.Prelude.{ℕ, ◌*◌, ◌%◌}
use Rattle.field.specs.Field.{P}

-- 1 / 2^64 modulo p (proofs/Forms.antt, `inverse_of_unit`)
abbrev pub unit_inverse : ℕ
unit_inverse = 288230397626548624

-- v / 2^64
abbrev pub divided : ℕ → ℕ
divided v = (v * unit_inverse) % P

-- 2^32
abbrev pub half : ℕ
half = 4294967296

-- (p − 1) / 2^32
abbrev pub quotient : ℕ
quotient = 536870932

-- a b / 2^64
unfoldable pub times_word : ℕ → ℕ → ℕ
times_word a b = divided (a * b)

-- 2^128 mod p
abbrev pub unit_square : ℕ
unit_square = 2288261904184696897

-- the word of the element x
abbrev pub enter_word : ℕ → ℕ
enter_word x = times_word x unit_square
