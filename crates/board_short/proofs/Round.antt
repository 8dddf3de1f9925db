-- The two ways round: what is written in the short edition is read back, and what is read was written so.
-- Assumes nothing.
use mathlib.Core.Path.{◌≡◌, sym, ap, ◌∙◌}
use mathlib.Core.List.{List, [], ◌∷◌, ◌++◌}
use Prim.Native.Nat.{ℕ, ◌+◌, ◌*◌}
use native.Mathlib.Omega.{arith}
use lib.ListN.{length, length-append, take, drop}
use lib.Seq.{take_at, drop_at}
use Rattle.field_words.specs.Words.{AllCanonical}
use Rattle.field_words.proofs.Laws.{append_canonical}
use Rattle.numbers.specs.Numbers.{tap_words, IsPermitted}
use Rattle.board_words.specs.Words.{AllBytes, bytes_of}
use Rattle.board.specs.Board.{element_count}
use Rattle.board_short_words.specs.Short.{short_words_of}
use Rattle.board_short_read.specs.Reading.{first_word, shorts_at}
use Rattle.board_short_read.proofs.Tests.{first_add}
use Rattle.board_short_words.proofs.Words.{all_needed}
use Rattle.board_short_read.proofs.Round.{Stands, stands_rest, stands_both, stands_unique, ReadsAll, stands_read_all}
use Rattle.board_short_read.proofs.Round.{WrittenAll, written_all, length_shorts, shorts_append, shorts_canonical}
use Rattle.board_short.specs.ShortBoard.{short_count_word, short_file_of, short_claim_in, short_taps_in, IsShortBoard}
use Rattle.board_short.specs.ShortBoard.{short_batches_in}
use Rattle.board_short.proofs.Answers.{batches_is}
use Rattle.board_short.proofs.Files as files

-- ---- the file of canonical taps and a canonical claim is a short file, and is read as those
module _ (taps claim : List ℕ) (k : ℕ) (permitted : IsPermitted k) (t : length taps ≡ tap_words k)
    (t-canonical : AllCanonical taps) (c : length claim ≡ 4) (c-canonical : AllCanonical claim) where
  all : AllCanonical (claim ++ taps)
  all = append_canonical claim taps c-canonical t-canonical

  count : length (claim ++ taps) ≡ element_count k
  count = length-append claim taps ∙ omega arith

  words : Stands (short_file_of taps claim k) 0 (short_count_word k ∷ short_words_of (claim ++ taps))
  words = files.file_words taps claim k permitted.high all

  read : ReadsAll (short_file_of taps claim k) 1 (claim ++ taps)
  read =
      stands_read_all (short_file_of taps claim k) 1 (claim ++ taps) all
      (stands_rest (short_file_of taps claim k) 0 (short_count_word k ∷ []) (short_words_of (claim ++ taps)) words)

  pub packed_board : IsShortBoard (short_file_of taps claim k) k
  packed_board = record {
    permitted = permitted;
    four = omega (arith, words.room);
    word = words.words 0 (omega arith);
    elements = λ i h. read.elements i (omega (arith, count));
    ends = omega (arith, ap (first_word (short_file_of taps claim k) 1) count, read.ends, whole);
  }
    where
      whole : length (short_file_of taps claim k) ≡ 4 * (1 + length (short_words_of (claim ++ taps)))
      whole = omega (arith, files.file_length taps claim k, all_needed (claim ++ taps))

  -- the claim, then the taps, are what is read
  parts : short_claim_in (short_file_of taps claim k) ++ short_taps_in (short_file_of taps claim k) ≡ claim ++ taps
  unfolding short_claim_in short_taps_in
  parts =
      let file : List ℕ = short_file_of taps claim k in
      let n : 4 + tap_words (short_batches_in file) ≡ length (claim ++ taps) =
      omega (arith, batches_is file k packed_board, count) in
      sym (shorts_append file 1 4 (tap_words (short_batches_in file))) ∙ ap (shorts_at file 1) n ∙ read.values

  pub packed_claim : short_claim_in (short_file_of taps claim k) ≡ claim
  unfolding short_claim_in
  packed_claim =
      let file : List ℕ = short_file_of taps claim k in
      sym (take_at (short_claim_in file) (short_taps_in file) 4 (length_shorts file 1 4))
      ∙ ap (take 4) parts
      ∙ take_at claim taps 4 c

  pub packed_taps : short_taps_in (short_file_of taps claim k) ≡ taps
  unfolding short_claim_in
  packed_taps =
      let file : List ℕ = short_file_of taps claim k in
      sym (drop_at (short_claim_in file) (short_taps_in file) 4 (length_shorts file 1 4))
      ∙ ap (drop 4) parts
      ∙ drop_at claim taps 4 c

-- ---- a short file is that of the claim and the taps that are read
module _ (file : List ℕ) (h : IsShortBoard file (short_batches_in file)) where
  written : WrittenAll file 1 (element_count (short_batches_in file))
  written = written_all file 1 (element_count (short_batches_in file)) (omega (arith, h.four)) h.elements

  pub board_elements : short_claim_in file ++ short_taps_in file ≡ shorts_at file 1 (element_count (short_batches_in file))
  unfolding short_claim_in short_taps_in
  board_elements =
      let n : 4 + tap_words (short_batches_in file) ≡ element_count (short_batches_in file) = omega arith in
      sym (shorts_append file 1 4 (tap_words (short_batches_in file))) ∙ ap (shorts_at file 1) n

  -- word 0, and then theirs, are the file's
  first : Stands file 0 (short_count_word (short_batches_in file) ∷ [])
  first = record {
    room = omega (arith, h.four);
    words = λ m l.
        let z : m ≡ 0 = omega arith in
        rw z h.word;
  }

  pub board_packs : AllBytes file → short_file_of (short_taps_in file) (short_claim_in file) (short_batches_in file) ≡ file
  unfolding short_file_of
  board_packs bytes =
      let count : List ℕ = short_count_word (short_batches_in file) ∷ [] in
      let words : List ℕ = short_words_of (shorts_at file 1 (element_count (short_batches_in file))) in
      ap (λ s. bytes_of (count ++ short_words_of s)) board_elements
      ∙ stands_unique file (count ++ words) bytes (stands_both file 0 count words first written.stands)
      (omega (arith, h.ends, written.ends))

-- what an accepted file holds
pub taps_length : (file : List ℕ) → length (short_taps_in file) ≡ tap_words (short_batches_in file)
unfolding short_taps_in
taps_length file = length_shorts file (first_word file 1 4) (tap_words (short_batches_in file))

pub board_canonical : (file : List ℕ) → IsShortBoard file (short_batches_in file)
    → AllCanonical (short_claim_in file) × AllCanonical (short_taps_in file)
unfolding short_claim_in short_taps_in
board_canonical file h = (
  shorts_canonical file 1 4 (λ i l. h.elements i (omega arith)),
  shorts_canonical file (first_word file 1 4) (tap_words (short_batches_in file))
      (λ i l. rw (first_add file 1 4 i) at (h.elements (4 + i) (omega arith))),
)
