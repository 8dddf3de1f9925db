-- The two ways round: what is packed is read back, and what is read packs to what was there.
-- Assumes nothing.
use mathlib.Core.Path.{◌≡◌, sym, ap, ◌∙◌}
use mathlib.Core.List.{List, ◌∷◌, ◌++◌}
use Prim.Native.Nat.{ℕ, zero, suc, ◌+◌, ◌*◌, ◌<◌}
use native.Mathlib.Numerals.{one-add}
use native.Mathlib.Omega.{arith}
use lib.ListN.{length, length-append, take, drop}
use lib.Seq.{take_at, drop_at}
use Rattle.lists.specs.Lists.{cell}
use Rattle.field_words.specs.Words.{AllCanonical}
use Rattle.field_words.proofs.Laws.{append_canonical}
use Rattle.numbers.specs.Numbers.{IsPermitted, IsPermittedTo}
use Rattle.board_words.specs.Words.{word_at, AllBytes, bytes_of}
use Rattle.board_words.specs.Elements.{words_of, elements_at}
use Rattle.board_words.proofs.Words.{bytes_unique}
use Rattle.board_words.proofs.Laws.{length_words}
use Rattle.board_words.proofs.Round.{read_accepted, read_back, words_back, length_elements}
use Rattle.board_words.proofs.Round.{elements_append, elements_canonical}
use Rattle.board.specs.Board.{most_file_batches, count_word, file_of, batches_in, claim_in, taps_in, IsBoard}
use Rattle.board.proofs.Answers.{batches_is}
use Rattle.board.proofs.Files as files

-- ---- the file of canonical taps and a canonical claim is a board file, and is read as those
module _ (taps claim : List ℕ) (k : ℕ) (permitted : IsPermittedTo most_file_batches k) (t : length taps ≡ 12 * k + 4)
    (t-canonical : AllCanonical taps) (c : length claim ≡ 4) (c-canonical : AllCanonical claim) where
  all : AllCanonical (claim ++ taps)
  all = append_canonical claim taps c-canonical t-canonical

  count : length (claim ++ taps) ≡ 12 * k + 8
  count = length-append claim taps ∙ omega arith

  pub packed_board : IsBoard (file_of taps claim k) k
  packed_board = record {
    permitted = permitted;
    word = files.file_first taps claim k permitted.high all;
    size = files.file_length taps claim k c t;
    elements = λ i h. read_accepted (file_of taps claim k) 1 (claim ++ taps) all
        (files.file_word taps claim k permitted.high all) i (omega (arith, count));
  }

  -- the claim, then the taps, are what is read
  parts : claim_in (file_of taps claim k) ++ taps_in (file_of taps claim k) ≡ claim ++ taps
  unfolding claim_in taps_in
  parts =
      let file : List ℕ = file_of taps claim k in
      let b = batches_is file k packed_board in
      let n : 4 + (12 * batches_in file + 4) ≡ length (claim ++ taps) = omega (arith, b, count) in
      sym (elements_append file 1 4 (12 * batches_in file + 4))
      ∙ ap (elements_at file 1) n
      ∙ read_back file 1 (claim ++ taps) all (files.file_word taps claim k permitted.high all)

  pub packed_claim : claim_in (file_of taps claim k) ≡ claim
  unfolding claim_in
  packed_claim =
      let file : List ℕ = file_of taps claim k in
      sym (take_at (claim_in file) (taps_in file) 4 (length_elements file 1 4))
      ∙ ap (take 4) parts
      ∙ take_at claim taps 4 c

  pub packed_taps : taps_in (file_of taps claim k) ≡ taps
  unfolding claim_in
  packed_taps =
      let file : List ℕ = file_of taps claim k in
      sym (drop_at (claim_in file) (taps_in file) 4 (length_elements file 1 4))
      ∙ ap (drop 4) parts
      ∙ drop_at claim taps 4 c

-- ---- a board file is that of the claim and the taps that are read

-- its elements: the claim, then the taps
pub board_elements : (file : List ℕ) → claim_in file ++ taps_in file ≡ elements_at file 1 (12 * batches_in file + 8)
unfolding claim_in taps_in
board_elements file =
    let n : 4 + (12 * batches_in file + 4) ≡ 12 * batches_in file + 8 = omega arith in
    sym (elements_append file 1 4 (12 * batches_in file + 4)) ∙ ap (elements_at file 1) n

module _ (file : List ℕ) (bytes : AllBytes file) (h : IsBoard file (batches_in file)) where
  k : ℕ
  k = batches_in file

  elements : List ℕ
  elements = elements_at file 1 (12 * k + 8)

  board_words : (j : ℕ) → j < length (count_word k ∷ words_of elements)
      → cell (count_word k ∷ words_of elements) j ≡ word_at file j
  unfolding k elements
  board_words zero l = sym h.word
  board_words (suc m) l =
      words_back file 1 (12 * k + 8) h.elements m
      (omega (arith, length_words elements, length_elements file 1 (12 * k + 8)))
      ∙ ap (word_at file) (one-add m)

  pub board_packs : file_of (taps_in file) (claim_in file) (batches_in file) ≡ file
  unfolding file_of k elements
  board_packs =
      ap (λ s. bytes_of (count_word k ∷ words_of s)) (board_elements file)
      ∙ bytes_unique file (count_word k ∷ words_of elements) bytes
      (omega (arith, h.size, length_words elements, length_elements file 1 (12 * k + 8))) board_words

-- the taps stand after the claim's four elements
pub after_claim : (i : ℕ) → 1 + 3 * (4 + i) ≡ 13 + 3 * i
after_claim i = omega arith

-- a file's k is permitted for a list of taps and a trace too
pub board_permitted : (file : List ℕ) (k : ℕ) → IsBoard file k → IsPermitted k
board_permitted file k h =
    let p = h.permitted in
    record { low = p.low; high = omega (arith, p.high); one_bit = p.one_bit }

-- what an accepted file holds
pub board_canonical : (file : List ℕ) → IsBoard file (batches_in file)
    → AllCanonical (claim_in file) × AllCanonical (taps_in file)
unfolding claim_in taps_in
board_canonical file h = (
  elements_canonical file 1 4 (λ i l. h.elements i (omega arith)),
  elements_canonical file 13 (12 * batches_in file + 4)
      (λ i l. rw (after_claim i) at (h.elements (4 + i) (omega arith))),
)

pub taps_length : (file : List ℕ) → length (taps_in file) ≡ 12 * batches_in file + 4
unfolding taps_in
taps_length file = length_elements file 13 (12 * batches_in file + 4)
