-- A word of the raw table is two words of four bytes.
-- Assumes nothing.
use mathlib.Core.Path.{◌≡◌, ap, ◌∙◌}
use mathlib.Core.List.{List}
use Prim.Native.Nat.{ℕ, ◌+◌, ◌*◌, ◌%◌, ◌^◌, ◌<◌}
use native.Mathlib.Omega.{arith}
use lib.Bits.{bit_or}
use Rattle.lists.specs.Lists.{cell, sum}
use Rattle.board_words.specs.Words.{word_at}
use Rattle.board_words.proofs.Shifts.{below}
use Rattle.clear_answer.specs.Clearing.{raw_word}

two_words : (s : List ℕ) (j : ℕ) → raw_word s j ≡ word_at s (2 * j) + word_at s (2 * j + 1) * 2 ^ 32
unfolding raw_word sum word_at
two_words s j =
    let low : (b : ℕ) → cell s (8 * j + b) ≡ cell s (4 * (2 * j) + b) = λ b. ap (cell s) (omega arith) in
    let high : (b : ℕ) → cell s (8 * j + (4 + b)) ≡ cell s (4 * (2 * j + 1) + b) = λ b. ap (cell s) (omega arith) in
    let first : (i : ℕ) → cell s (4 * i + 0) ≡ cell s (4 * i) = λ i. ap (cell s) (omega arith) in
    omega (arith, first (2 * j), first (2 * j + 1), low 0, low 1, low 2, low 3, high 0, high 1, high 2, high 3)

pub joined_word : (s : List ℕ) (j low high : ℕ) → low < 2 ^ 32 → high < 2 ^ 32
    → low ≡ word_at s (2 * j) → high ≡ word_at s (2 * j + 1) → bit_or low (high * 2 ^ 32 % 2 ^ 64) ≡ raw_word s j
joined_word s j low high l h e q = below 64 high 32 low (omega arith) l ∙ omega (arith, two_words s j)
