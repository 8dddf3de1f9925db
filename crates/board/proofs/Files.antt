-- The file's length, its words, and the stores that write it.
-- Assumes nothing.
use mathlib.Core.Path.{◌≡◌, sym, ap, ◌∙◌}
use mathlib.Core.List.{List, ◌∷◌, ◌++◌}
use Prim.Native.Nat.{ℕ, suc, ◌+◌, ◌*◌, ◌<◌, ◌≤◌}
use native.Mathlib.Numerals.{one-add}
use native.Mathlib.Omega.{arith}
use lib.ListN.{length, length-append}
use lib.Seq.{sets}
use Rattle.lists.specs.Lists.{cell, each}
use Rattle.lists.proofs.Each.{each_append}
use Rattle.lists.proofs.Stores.{sets_append, sets_all}
use Rattle.field_words.specs.Words.{AllCanonical}
use Rattle.board_words.specs.Words.{word_bytes, word_at, bytes_of}
use Rattle.board_words.specs.Elements.{element_words, words_of}
use Rattle.board_words.proofs.Words.{length_bytes, word_bytes_lem}
use Rattle.board_words.proofs.Laws.{length_words}
use Rattle.board_words.proofs.Round.{words_below}
use Rattle.board.specs.Board.{most_file_batches, count_word, file_of, file_size}

pub file_length : (taps claim : List ℕ) (k : ℕ) → length claim ≡ 4 → length taps ≡ 12 * k + 4
    → length (file_of taps claim k) ≡ file_size k
unfolding file_of
file_length taps claim k c t =
    length_bytes (count_word k ∷ words_of (claim ++ taps))
    ∙ omega (arith, length_words (claim ++ taps), length-append claim taps)

-- word 0, then claim, then taps
file_parts : (taps claim : List ℕ) (k : ℕ)
    → file_of taps claim k ≡ (word_bytes (count_word k) ++ bytes_of (words_of claim)) ++ bytes_of (words_of taps)
unfolding file_of each
file_parts taps claim k =
    ap (λ s. word_bytes (count_word k) ++ s)
    (ap bytes_of (each_append element_words claim taps) ∙ each_append word_bytes (words_of claim) (words_of taps))

pub file_written : (l l₁ l₂ l₃ taps claim : List ℕ) (k w : ℕ) → length claim ≡ 4 → length taps ≡ 12 * k + 4
    → length l ≡ file_size k → w ≡ count_word k
    → l₁ ≡ sets l 0 (word_bytes w) → l₂ ≡ sets l₁ 4 (bytes_of (words_of claim)) → l₃ ≡ sets l₂ 52 (bytes_of (words_of taps))
    → l₃ ≡ file_of taps claim k
file_written l l₁ l₂ l₃ taps claim k w c t size e p q r =
    let first : List ℕ = word_bytes (count_word k) in
    let second : List ℕ = bytes_of (words_of claim) in
    let third : List ℕ = bytes_of (words_of taps) in
    let at : 52 ≡ 0 + length (first ++ second) =
    omega (arith, length-append first second, length_bytes (words_of claim), length_words claim) in
    let parts = file_parts taps claim k in
    let all : length ((first ++ second) ++ third) ≡ length l =
    ap length (sym parts) ∙ file_length taps claim k c t ∙ sym size in
    r
    ∙ ap (λ s. sets s 52 third)
    (q ∙ ap (λ s. sets s 4 second) (p ∙ ap (λ n. sets l 0 (word_bytes n)) e) ∙ sets_append l 0 first second)
    ∙ ap (λ n. sets (sets l 0 (first ++ second)) n third) at
    ∙ sets_append l 0 (first ++ second) third
    ∙ sets_all l ((first ++ second) ++ third) all
    ∙ sym parts

-- ---- the words of the file of canonical taps and a canonical claim
module _ (taps claim : List ℕ) (k : ℕ) (small : k ≤ most_file_batches) (all : AllCanonical (claim ++ taps)) where
  words : List ℕ
  words = count_word k ∷ words_of (claim ++ taps)

  words_length : length words ≡ suc (3 * length (claim ++ taps))
  unfolding words
  words_length = ap suc (length_words (claim ++ taps))

  pub file_first : word_at (file_of taps claim k) 0 ≡ count_word k
  unfolding file_of words
  file_first = word_bytes_lem words 0 (omega (arith, words_length)) (omega arith)

  pub file_word : (m : ℕ) → m < 3 * length (claim ++ taps)
      → word_at (file_of taps claim k) (1 + m) ≡ cell (words_of (claim ++ taps)) m
  unfolding file_of words
  file_word m h =
      rw (one-add m) (word_bytes_lem words (suc m) (omega (arith, words_length)) (words_below (claim ++ taps) all m h))
