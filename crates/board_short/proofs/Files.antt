-- The short file's length, its words, and the stores that write it.
-- Assumes nothing.
use mathlib.Core.Path.{◌≡◌, refl, sym, ap, ◌∙◌}
use mathlib.Core.List.{List, [], ◌∷◌, ◌++◌}
use Prim.Native.Nat.{ℕ, zero, suc, ◌+◌, ◌*◌, ◌^◌, ◌≤◌, ◌<◌}
use native.Mathlib.Omega.{arith}
use lib.Bits.{bit_or, or_shifted}
use lib.ListN.{length}
use lib.Seq.{sets}
use Rattle.lists.specs.Lists.{cell}
use Rattle.lists.proofs.Each.{each_append}
use Rattle.lists.proofs.Stores.{sets_all}
use Rattle.field_words.specs.Words.{AllCanonical}
use Rattle.numbers.specs.Numbers.{most_batches}
use Rattle.board_words.specs.Words.{word_bytes, bytes_of}
use Rattle.board_words.proofs.Words.{length_bytes}
use Rattle.board_words.proofs.Laws.{write_on, write_one}
use Rattle.board_short_words.specs.Short.{short_words, short_words_of, all_bytes_needed}
use Rattle.board_short_words.proofs.Words.{all_needed, needed_append}
use Rattle.board_short_read.proofs.Round.{Stands, bytes_stand, words_below}
use Rattle.board_short.specs.ShortBoard.{short_count_word, short_file_of, short_file_size}

-- the mark beside k
pub mark_or : (k : ℕ) → k ≤ most_batches → bit_or (2 ^ 29) k ≡ 2 ^ 29 + k
mark_or k h = or_shifted 1 29 k (omega arith)

pub mark_fits : (k : ℕ) → k ≤ most_batches → bit_or (2 ^ 29) k < 2 ^ 30
mark_fits k h = rw (mark_or k h) (omega arith)

-- the parts of the length
pub size_parts : (taps claim : List ℕ) (a b : ℕ) → a ≡ all_bytes_needed claim → b ≡ all_bytes_needed taps
    → 4 + a + b ≡ short_file_size taps claim
size_parts taps claim a b p q = omega (arith, needed_append claim taps, p, q)

pub file_length : (taps claim : List ℕ) (k : ℕ) → length (short_file_of taps claim k) ≡ short_file_size taps claim
unfolding short_file_of
file_length taps claim k =
    length_bytes (short_count_word k ∷ short_words_of (claim ++ taps)) ∙ omega (arith, all_needed (claim ++ taps))

-- there is room for word 0, for the claim after it, and for the taps after the claim
pub word_fits : (l taps claim : List ℕ) → length l ≡ short_file_size taps claim → 4 ≤ length l
word_fits l taps claim e = omega (arith, e)

pub claim_fits : (l taps claim : List ℕ) → length l ≡ short_file_size taps claim
    → 4 * (1 + length (short_words_of claim)) ≤ length l
claim_fits l taps claim e = omega (arith, e, needed_append claim taps, all_needed claim)

pub taps_fit : (l taps claim : List ℕ) (at : ℕ) → length l ≡ short_file_size taps claim
    → at ≡ 1 + length (short_words_of claim) → 4 * (at + length (short_words_of taps)) ≤ length l
taps_fit l taps claim at e p =
    omega (arith, e, p, needed_append claim taps, all_needed claim, all_needed taps)

-- word 0, then claim, then taps
pub file_written : (l l₁ l₂ l₃ taps claim : List ℕ) (k w at : ℕ) → length l ≡ short_file_size taps claim
    → w ≡ short_count_word k → at ≡ 1 + length (short_words_of claim)
    → l₁ ≡ sets l 0 (word_bytes w) → l₂ ≡ sets l₁ 4 (bytes_of (short_words_of claim))
    → l₃ ≡ sets l₂ (4 * at) (bytes_of (short_words_of taps))
    → l₃ ≡ short_file_of taps claim k
unfolding short_file_of
file_written l l₁ l₂ l₃ taps claim k w at size e a p q r =
    let first : List ℕ = short_count_word k ∷ [] in
    let words : List ℕ = short_count_word k ∷ short_words_of (claim ++ taps) in
    let one = write_one l l₁ 0 w (short_count_word k) e p in
    let two = write_on l l₁ l₂ first (short_words_of claim) 0 1 refl one q in
    let place : 4 * at ≡ 4 * (0 + (1 + length (short_words_of claim))) = omega (arith, a) in
    let three = write_on l l₂ l₃ (first ++ short_words_of claim) (short_words_of taps) 0 (1 + length (short_words_of claim))
    (omega arith) two (r ∙ ap (λ n. sets l₂ n (bytes_of (short_words_of taps))) place) in
    let all : length (bytes_of words) ≡ length l = file_length taps claim k ∙ sym size in
    three
    ∙ ap (λ ws. sets l 0 (bytes_of (short_count_word k ∷ ws))) (sym (each_append short_words claim taps))
    ∙ sets_all l (bytes_of words) all

-- the words of the file of canonical taps and a canonical claim
pub file_words : (taps claim : List ℕ) (k : ℕ) → k ≤ most_batches → AllCanonical (claim ++ taps)
    → Stands (short_file_of taps claim k) 0 (short_count_word k ∷ short_words_of (claim ++ taps))
unfolding short_file_of
file_words taps claim k small all = bytes_stand (short_count_word k ∷ short_words_of (claim ++ taps)) below
  where
    below : (m : ℕ) → m < length (short_count_word k ∷ short_words_of (claim ++ taps))
        → cell (short_count_word k ∷ short_words_of (claim ++ taps)) m < 2 ^ 32
    below zero h = omega arith
    below (suc m) h = words_below (claim ++ taps) all m (omega arith)
