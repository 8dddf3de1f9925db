-- The short edition of the board file: what its writer writes, and what its reader finds (document 02, U7 and U9).
-- Assumes nothing.
use Rattle.std.specs.Prelude.{◌≡◌, List, ◌∷◌, ◌++◌, ℕ, ◌+◌, ◌*◌, ◌/◌, ◌%◌, ◌^◌, ◌≤◌, ◌<◌, eqb, leb, length, Result, Ok}
use Rattle.field_words.specs.Words.{first_bad, canonical_words}
use Rattle.numbers.specs.Numbers.{tap_words, permitted, tap_word_batches, is_tap_length, most_batches, IsPermitted}
use Rattle.refusals.specs.Answers.{Answer, unless, after, with_value, leaves}
use Rattle.refusals.specs.declared.Refusal.{Refusal}
use Rattle.refusals.specs.declared.Refusal.TheVariants.{TapLength, TapWord, DestinationLength, ClaimWord, FileLength}
use Rattle.refusals.specs.declared.Refusal.TheVariants.{WrongKind, WrongValue}
use Rattle.board_words.specs.Words.{joined, kind_of, payload_of, word_at, bytes_of}
use Rattle.board_words.specs.Elements.{element_at, IsElement}
use Rattle.board.specs.Board.{element_count}
use Rattle.board_short_words.specs.Short.{short_words_of, all_bytes_needed}
use Rattle.board_short_read.specs.Reading.{first_word, shorts_at, shorts_test, ElementFault, IsShortElement}

-- ---- the file of k batches

-- word 0 has kind 0, bit 29 set, bits 20 to 28 zero, k in bits 0 to 19 (U9)
abbrev pub short_count_word : ℕ → ℕ
short_count_word k = joined 0 (2 ^ 29 + k)

-- then claim and taps
unfoldable pub short_file_of : List ℕ → List ℕ → ℕ → List ℕ
short_file_of taps claim k = bytes_of (short_count_word k ∷ short_words_of (claim ++ taps))

-- length in bytes: word 0, and what the elements need
abbrev pub short_file_size : List ℕ → List ℕ → ℕ
short_file_size taps claim = 4 + all_bytes_needed (claim ++ taps)

-- ---- the writer: 5, 8, 9, 6

-- what its tests find, which it answers; size is the destination's length
unfoldable pub pack_short_test : List ℕ → List ℕ → ℕ → Answer
pack_short_test taps claim size =
    unless (is_tap_length most_batches (length taps)) TapLength
    (unless (eqb size (short_file_size taps claim)) DestinationLength
    (unless (canonical_words claim) (ClaimWord (first_bad claim))
    (unless (canonical_words taps) (TapWord (first_bad taps))
    (Ok tt))))

-- what it writes when it accepts
unfoldable pub packed_short : List ℕ → List ℕ → List ℕ
packed_short taps claim = short_file_of taps claim (tap_word_batches (length taps))

-- what it leaves in the destination: that file, or what was there
unfoldable pub pack_short_leaves : List ℕ → List ℕ → List ℕ → List ℕ
pack_short_leaves taps claim old = leaves (pack_short_test taps claim (length old)) (packed_short taps claim) old

-- ---- what any bytes hold

-- k, as word 0 has it
abbrev pub short_count_in : ℕ → ℕ
short_count_in w = w % 2 ^ 20

-- the mark: bit 29 of word 0
abbrev pub mark_in : ℕ → ℕ
mark_in w = payload_of w / 2 ^ 29

-- its spare bits, 20 to 28
abbrev pub short_spare_in : ℕ → ℕ
short_spare_in w = payload_of w / 2 ^ 20 % 2 ^ 9

-- the file's k
unfoldable pub short_batches_in : List ℕ → ℕ
short_batches_in file = short_count_in (word_at file 0)

-- the claim: four elements after word 0
unfoldable pub short_claim_in : List ℕ → List ℕ
short_claim_in file = shorts_at file 1 4

-- the taps: the elements after the claim
unfoldable pub short_taps_in : List ℕ → List ℕ
short_taps_in file = shorts_at file (first_word file 1 4) (tap_words (short_batches_in file))

-- ---- the reader: 12 (below 4), word 0's 13 then 14, 8, then element by element 12 where the input ends, 13, 14, 18,
-- and 12 for bytes after the last

-- what reading word 0 finds: its kind, then mark, spare bits and k
unfoldable pub short_count_test : ℕ → Answer
short_count_test w =
    unless (eqb (kind_of w) 0) (WrongKind 0)
    (unless (eqb (mark_in w) 1) (WrongValue 0)
    (unless (eqb (short_spare_in w) 0) (WrongValue 0)
    (unless (permitted most_batches (short_count_in w)) (WrongValue 0)
    (Ok tt))))

-- what reading the file finds; size is the destination's length
unfoldable pub unpack_short_test : List ℕ → ℕ → Answer
unpack_short_test file size =
    unless (leb 4 (length file)) FileLength
    (after (short_count_test (word_at file 0))
    (unless (eqb size (tap_words (short_batches_in file))) DestinationLength
    (shorts_test file 1 (element_count (short_batches_in file)))))

-- the claim is returned
unfoldable pub unpack_short_answer : List ℕ → ℕ → Result (List ℕ) Refusal
unpack_short_answer file size = with_value (unpack_short_test file size) (short_claim_in file)

-- what the reader leaves in the destination: the 12k + 4 tap words, or what was there
unfoldable pub unpack_short_leaves : List ℕ → List ℕ → List ℕ
unpack_short_leaves file old = leaves (unpack_short_test file (length old)) (short_taps_in file) old

-- ---- what acceptance says: the bytes are a short file of k batches
pub record IsShortBoard (file : List ℕ) (k : ℕ) : Type 0 where
  pub permitted : IsPermitted k
  pub four : 4 ≤ length file
  pub word : word_at file 0 ≡ short_count_word k
  pub elements : (i : ℕ) → i < element_count k → IsShortElement file (first_word file 1 i)
  pub ends : 4 * first_word file 1 (element_count k) ≡ length file

-- ---- what a refusal says: the fault that comes first

-- word 0 is there and accepted, and the destination has room for the taps of k batches
pub record ReadsOn (file : List ℕ) (size k : ℕ) : Type 0 where
  pub four : 4 ≤ length file
  pub permitted : IsPermitted k
  pub word : word_at file 0 ≡ short_count_word k
  pub room : size ≡ tap_words k

-- the first n elements are those of a short file
abbrev pub ShortTo : List ℕ → ℕ → Type 0
ShortTo file n = (i : ℕ) → i < n → IsShortElement file (first_word file 1 i)

-- three words, where one would do, of an element below 2^30, those before it being accepted; j is the first of them
pub record ThreeForOne (file : List ℕ) (size j : ℕ) : Type 0 where
  pub k : ℕ
  pub i : ℕ
  pub reads_on : ReadsOn file size k
  pub within : i < element_count k
  pub before : ShortTo file i
  pub first : j ≡ first_word file 1 i
  pub whole : 4 * j + 12 ≤ length file
  pub element : IsElement file j
  pub low : element_at file j < 2 ^ 30

-- the fault that r is answered for; size is the destination's length
pub data FirstFault (file : List ℕ) (size : ℕ) (r : Refusal) : Type 0 where
  -- no word 0
  no_count : length file < 4 → r ≡ FileLength → FirstFault file size r
  -- word 0 is not of kind 0
  count_kind : 4 ≤ length file → (kind_of (word_at file 0) ≡ 0 → ⊥) → r ≡ WrongKind 0 → FirstFault file size r
  -- or is not the mark beside a permitted k
  count_value : 4 ≤ length file → kind_of (word_at file 0) ≡ 0
      → ((k : ℕ) → IsPermitted k → word_at file 0 ≡ short_count_word k → ⊥) → r ≡ WrongValue 0
      → FirstFault file size r
  -- no room for the taps
  no_room : 4 ≤ length file → (k : ℕ) → IsPermitted k → word_at file 0 ≡ short_count_word k
      → (size ≡ tap_words k → ⊥) → r ≡ DestinationLength → FirstFault file size r
  -- the fault of element i, those before it being accepted
  element : (k i : ℕ) → ReadsOn file size k → i < element_count k → ShortTo file i
      → ElementFault file (first_word file 1 i) r → FirstFault file size r
  -- bytes after the last element
  tail : (k : ℕ) → ReadsOn file size k → ShortTo file (element_count k)
      → (4 * first_word file 1 (element_count k) ≡ length file → ⊥) → r ≡ FileLength → FirstFault file size r
