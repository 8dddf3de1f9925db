-- The short edition as it was before U9 (document 02, U7): k in bits 0 to 15 of word 0, bits 16 to 28 zero, and at most
-- 1024 batches. By this, short files that are already stored were written and read. The elements, the mark and the file
-- of k batches are those of the definitions of now, which U9 left as they were. And one such file, byte by byte.
-- Assumes nothing.
use Rattle.std.specs.Prelude.{◌≡◌, List, [], ◌∷◌, ◌++◌, ℕ, ◌/◌, ◌%◌, ◌^◌, eqb, leb, length, replicate, Result, Ok}
use Rattle.field_words.specs.Words.{first_bad, canonical_words}
use Rattle.numbers.specs.Numbers.{tap_words, permitted, is_tap_length}
use Rattle.refusals.specs.Answers.{Answer, unless, after, with_value, leaves}
use Rattle.refusals.specs.declared.Refusal.TheVariants.{TapLength, TapWord, DestinationLength, ClaimWord}
use Rattle.refusals.specs.declared.Refusal.TheVariants.{FileLength, WrongKind, WrongValue}
use Rattle.board_words.specs.Words.{kind_of, payload_of, word_at}
use Rattle.board.specs.Board.{element_count}
use Rattle.board_short_read.specs.Reading.{first_word, shorts_at, shorts_test}
use Rattle.board_short.specs.ShortBoard.{short_file_size, packed_short, mark_in, short_claim_in}
use Rattle.known_days.specs.Files.{FileOf, ShortFile, repeated}
use Rattle.refusals.specs.declared.Refusal.{Refusal}

-- the most batches of a short file
abbrev pub most_stored : ℕ
most_stored = 1024

-- ---- the writer: 5, 8, 9, 6
unfoldable pub stored_pack_test : List ℕ → List ℕ → ℕ → Answer
stored_pack_test taps claim size =
    unless (is_tap_length most_stored (length taps)) TapLength
    (unless (eqb size (short_file_size taps claim)) DestinationLength
    (unless (canonical_words claim) (ClaimWord (first_bad claim))
    (unless (canonical_words taps) (TapWord (first_bad taps))
    (Ok tt))))

unfoldable pub stored_pack_leaves : List ℕ → List ℕ → List ℕ → List ℕ
stored_pack_leaves taps claim old = leaves (stored_pack_test taps claim (length old)) (packed_short taps claim) old

-- ---- the reader: 12 (below 4), word 0's 13 then 14, 8, then element by element 12 where the input ends, 13, 14, 18,
-- and 12 for bytes after the last

-- k, as word 0 had it, and the spare bits, 16 to 28
abbrev pub stored_count_in : ℕ → ℕ
stored_count_in w = w % 2 ^ 16

abbrev pub stored_spare_in : ℕ → ℕ
stored_spare_in w = payload_of w / 2 ^ 16 % 2 ^ 13

unfoldable pub stored_batches_in : List ℕ → ℕ
stored_batches_in file = stored_count_in (word_at file 0)

unfoldable pub stored_taps_in : List ℕ → List ℕ
stored_taps_in file = shorts_at file (first_word file 1 4) (tap_words (stored_batches_in file))

unfoldable pub stored_count_test : ℕ → Answer
stored_count_test w =
    unless (eqb (kind_of w) 0) (WrongKind 0)
    (unless (eqb (mark_in w) 1) (WrongValue 0)
    (unless (eqb (stored_spare_in w) 0) (WrongValue 0)
    (unless (permitted most_stored (stored_count_in w)) (WrongValue 0)
    (Ok tt))))

unfoldable pub stored_unpack_test : List ℕ → ℕ → Answer
stored_unpack_test file size =
    unless (leb 4 (length file)) FileLength
    (after (stored_count_test (word_at file 0))
    (unless (eqb size (tap_words (stored_batches_in file))) DestinationLength
    (shorts_test file 1 (element_count (stored_batches_in file)))))

unfoldable pub stored_unpack_answer : List ℕ → ℕ → Result (List ℕ) Refusal
stored_unpack_answer file size = with_value (stored_unpack_test file size) (short_claim_in file)

unfoldable pub stored_unpack_leaves : List ℕ → List ℕ → List ℕ
stored_unpack_leaves file old = leaves (stored_unpack_test file (length old)) (stored_taps_in file) old

-- ---- a file of two batches as it was stored, each word with its low byte first

unfoldable pub stored_claim : List ℕ
stored_claim = 1 ∷ 2 ∷ 3 ∷ 1073741824 ∷ []

unfoldable pub stored_taps : List ℕ
stored_taps = (2305843095113039872 ∷ 4 ∷ 5 ∷ 6 ∷ []) ++ replicate 23 0 ++ (7 ∷ [])

-- 20000002; C0000001, C0000002, C0000003, and 2^30 in three words; p − 1 in three, C0000004, ..
unfoldable pub stored_file : List ℕ
stored_file =
    (0x02 ∷ 0x00 ∷ 0x00 ∷ 0x20 ∷ [])
    ++ (0x01 ∷ 0x00 ∷ 0x00 ∷ 0xC0 ∷ 0x02 ∷ 0x00 ∷ 0x00 ∷ 0xC0 ∷ 0x03 ∷ 0x00 ∷ 0x00 ∷ 0xC0 ∷ [])
    ++ (0x00 ∷ 0x00 ∷ 0x00 ∷ 0x40 ∷ 0x01 ∷ 0x00 ∷ 0x00 ∷ 0x80 ∷ 0x00 ∷ 0x00 ∷ 0x00 ∷ 0xC0 ∷ [])
    ++ (0x02 ∷ 0x00 ∷ 0x00 ∷ 0x40 ∷ 0x50 ∷ 0x00 ∷ 0x00 ∷ 0x80 ∷ 0x00 ∷ 0x00 ∷ 0x00 ∷ 0xC0 ∷ [])
    ++ (0x04 ∷ 0x00 ∷ 0x00 ∷ 0xC0 ∷ 0x05 ∷ 0x00 ∷ 0x00 ∷ 0xC0 ∷ 0x06 ∷ 0x00 ∷ 0x00 ∷ 0xC0 ∷ [])
    ++ repeated 23 (0x00 ∷ 0x00 ∷ 0x00 ∷ 0xC0 ∷ [])
    ++ (0x07 ∷ 0x00 ∷ 0x00 ∷ 0xC0 ∷ [])

-- it was written and read so before U9, and still is
pub record Stored : Type 0 where
  pub before_U9 : FileOf stored_pack_test stored_pack_leaves stored_unpack_answer stored_unpack_leaves stored_taps stored_claim
      stored_file
  pub since_U9 : ShortFile stored_taps stored_claim stored_file
  -- and a claim that was read had four words
  pub claim_words : (file : List ℕ) (size : ℕ) (d : List ℕ) → stored_unpack_answer file size ≡ Ok d
      → length d ≡ 4
