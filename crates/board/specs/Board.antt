-- The board file: what Pack writes, and what Unpack finds (document 01, "The board file", "What is turned back").
-- Assumes nothing.
use Rattle.std.specs.Prelude.{◌≡◌, List, ◌∷◌, ◌++◌, ℕ, ◌+◌, ◌*◌, ◌/◌, ◌%◌, ◌^◌, ◌≤◌, ◌<◌, eqb, leb, length, Result, Ok}
use Rattle.field_words.specs.Words.{first_bad, canonical_words}
use Rattle.numbers.specs.Numbers.{tap_words, IsPermittedTo, permitted, tap_word_batches, is_tap_length}
use Rattle.refusals.specs.Answers.{Answer, unless, after, with_value, leaves}
use Rattle.refusals.specs.declared.Refusal.TheVariants.{TapLength, TapWord, DestinationLength, ClaimWord}
use Rattle.refusals.specs.declared.Refusal.TheVariants.{FileLength, WrongKind, WrongValue}
use Rattle.board_words.specs.Words.{joined, kind_of, payload_of, word_at, bytes_of}
use Rattle.board_words.specs.Elements.{words_of, elements_at, elements_test, IsElement}
use Rattle.refusals.specs.declared.Refusal.{Refusal}

-- ---- the file of k batches

-- the most batches of a file, fewer than of a list of taps (document 02, U9)
abbrev pub most_file_batches : ℕ
most_file_batches = 1024

-- word 0 has kind 0, bits 16 to 29 zero, k in bits 0 to 15
abbrev pub count_word : ℕ → ℕ
count_word k = joined 0 k

-- then claim and taps
unfoldable pub file_of : List ℕ → List ℕ → ℕ → List ℕ
file_of taps claim k = bytes_of (count_word k ∷ words_of (claim ++ taps))

-- the elements of the claim and of 3k + 1 taps
abbrev pub element_count : ℕ → ℕ
element_count k = 12 * k + 8

-- length 144k + 100 bytes
abbrev pub file_size : ℕ → ℕ
file_size k = 144 * k + 100

-- ---- Pack: 5, 8, 9, 6

-- what its tests find, which it answers; size is the destination's length
unfoldable pub pack_test : List ℕ → List ℕ → ℕ → Answer
pack_test taps claim size =
    unless (is_tap_length most_file_batches (length taps)) TapLength
    (unless (eqb size (file_size (tap_word_batches (length taps)))) DestinationLength
    (unless (canonical_words claim) (ClaimWord (first_bad claim))
    (unless (canonical_words taps) (TapWord (first_bad taps))
    (Ok tt))))

-- what an accepting Pack writes
unfoldable pub packed : List ℕ → List ℕ → List ℕ
packed taps claim = file_of taps claim (tap_word_batches (length taps))

-- what Pack leaves in the destination: that file, or what was there
unfoldable pub pack_leaves : List ℕ → List ℕ → List ℕ → List ℕ
pack_leaves taps claim old = leaves (pack_test taps claim (length old)) (packed taps claim) old

-- ---- what any bytes hold

-- k, as word 0 has it
abbrev pub count_in : ℕ → ℕ
count_in w = w % 2 ^ 16

-- the spare bits of word 0
abbrev pub spare_in : ℕ → ℕ
spare_in w = payload_of w / 2 ^ 16

-- the file's k
unfoldable pub batches_in : List ℕ → ℕ
batches_in file = count_in (word_at file 0)

-- its claim: four elements after word 0
unfoldable pub claim_in : List ℕ → List ℕ
claim_in file = elements_at file 1 4

-- its taps: the elements after the claim
unfoldable pub taps_in : List ℕ → List ℕ
taps_in file = elements_at file 13 (tap_words (batches_in file))

-- ---- Unpack: 12 (below 4), word 0's 13 then 14, 12, 8, then each element's three kinds and its value

-- what reading word 0 finds: its kind, then spare bits and k
unfoldable pub count_test : ℕ → Answer
count_test w =
    unless (eqb (kind_of w) 0) (WrongKind 0)
    (unless (eqb (spare_in w) 0) (WrongValue 0)
    (unless (permitted most_file_batches (count_in w)) (WrongValue 0)
    (Ok tt)))

-- what reading the file finds; size is the destination's length
unfoldable pub unpack_test : List ℕ → ℕ → Answer
unpack_test file size =
    unless (leb 4 (length file)) FileLength
    (after (count_test (word_at file 0))
    (unless (eqb (length file) (file_size (batches_in file))) FileLength
    (unless (eqb size (tap_words (batches_in file))) DestinationLength
    (elements_test file 1 (element_count (batches_in file))))))

-- the claim is returned
unfoldable pub unpack_answer : List ℕ → ℕ → Result (List ℕ) Refusal
unpack_answer file size = with_value (unpack_test file size) (claim_in file)

-- what Unpack leaves in the destination: the 12k + 4 tap words, or what was there
unfoldable pub unpack_leaves : List ℕ → List ℕ → List ℕ
unpack_leaves file old = leaves (unpack_test file (length old)) (taps_in file) old

-- ---- what acceptance says: the bytes are a board file of k batches
pub record IsBoard (file : List ℕ) (k : ℕ) : Type 0 where
  pub permitted : IsPermittedTo most_file_batches k
  pub word : word_at file 0 ≡ count_word k
  pub size : length file ≡ file_size k
  pub elements : (i : ℕ) → i < element_count k → IsElement file (1 + 3 * i)

-- what Unpack has found when it comes to the value of element i, counted from the claim's first
pub record ReadTo (file : List ℕ) (size i : ℕ) : Type 0 where
  pub four : 4 ≤ length file
  pub count : count_test (word_at file 0) ≡ Ok tt
  pub bytes : length file ≡ file_size (batches_in file)
  pub room : size ≡ tap_words (batches_in file)
  pub within : i < element_count (batches_in file)
  pub before : (n : ℕ) → n < i → IsElement file (1 + 3 * n)
  pub high : kind_of (word_at file (1 + 3 * i)) ≡ 1
  pub middle : kind_of (word_at file (1 + 3 * i + 1)) ≡ 2
  pub low : kind_of (word_at file (1 + 3 * i + 2)) ≡ 3
