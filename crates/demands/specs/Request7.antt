-- Request 7 (document 02, U7): short words in the board file. What the short edition's writer writes its reader reads,
-- and an accepted file is written again byte for byte, so that a claim with its list has one short file. No element
-- loses a bit. A file that is not accepted is refused for the fault that comes first in the reader's order.
-- Assumes nothing.
use Rattle.std.specs.Prelude.{◌≡◌, List, ◌++◌, ◌↔◌, ◌⊎◌, ℕ, ◌+◌, ◌*◌, ◌^◌, ◌≤◌, ◌<◌, length, Ok, Err}
use Rattle.lists.specs.Lists.{cell}
use Rattle.field_words.specs.Words.{AllCanonical}
use Rattle.numbers.specs.Numbers.{tap_words, IsPermitted}
use Rattle.refusals.specs.declared.Refusal.{Refusal}
use Rattle.refusals.specs.declared.Refusal.TheVariants.{WrongValue, LongElement}
use Rattle.board_words.specs.Words.{kind_of, word_at, AllBytes}
use Rattle.board.specs.Board.{element_count, file_size, unpack_answer}
use Rattle.board_short_words.specs.Short.{short_words, spelled}
use Rattle.board_short.specs.ShortBoard.{short_file_size, pack_short_test, packed_short, pack_short_leaves}
use Rattle.board_short.specs.ShortBoard.{mark_in, short_spare_in, unpack_short_answer, unpack_short_leaves, ThreeForOne}
use Rattle.board_short.specs.ShortBoard.{FirstFault}
use Rattle.call_results.specs.Code.{refusal_code, words_code}
use Rattle.call_answers.specs.Calls.{PackShortCall, UnpackShortCall}

-- taps of k batches, k permitted, and a claim, of words below p: what a short file is of
pub record IsShortDay (taps claim : List ℕ) (k : ℕ) : Type 0 where
  pub permitted : IsPermitted k
  pub taps_size : length taps ≡ tap_words k
  pub claim_size : length claim ≡ 4
  pub taps_canonical : AllCanonical taps
  pub claim_canonical : AllCanonical claim

pub record Request7 : Type 0 where
  -- ---- there and back
  -- the writer accepts exactly these, with a destination of the length that the elements need
  pub writes_exactly : (taps claim : List ℕ) (size : ℕ) → length claim ≡ 4
      → (pack_short_test taps claim size ≡ Ok tt)
      ↔ (((k : ℕ) × IsShortDay taps claim k) × (size ≡ short_file_size taps claim))
  -- a file that it wrote into old, read
  pub reads : (taps claim old room : List ℕ) → length claim ≡ 4
      → pack_short_test taps claim (length old) ≡ Ok tt → length room ≡ length taps
      → (unpack_short_answer (pack_short_leaves taps claim old) (length room) ≡ Ok claim)
      × (unpack_short_leaves (pack_short_leaves taps claim old) room ≡ taps)
  -- a file that the reader accepted with the claim d, written from the taps that it left in old
  pub writes_back : (file old room d : List ℕ) → AllBytes file
      → unpack_short_answer file (length old) ≡ Ok d → length room ≡ length file
      → (pack_short_test (unpack_short_leaves file old) d (length room) ≡ Ok tt)
      × (pack_short_leaves (unpack_short_leaves file old) d room ≡ file)
  -- ---- one file, one meaning
  -- two accepted files that hold one claim and one list are one file
  pub one_file : (f g s t d : List ℕ) → AllBytes f → AllBytes g
      → unpack_short_answer f (length s) ≡ Ok d → unpack_short_answer g (length t) ≡ Ok d
      → unpack_short_leaves f s ≡ unpack_short_leaves g t → f ≡ g
  -- and what one file was written of is one claim and one list
  pub one_meaning : (taps claim others other : List ℕ) (m n : ℕ) → length claim ≡ 4 → length other ≡ 4
      → pack_short_test taps claim m ≡ Ok tt → pack_short_test others other n ≡ Ok tt
      → packed_short taps claim ≡ packed_short others other → (taps ≡ others) × (claim ≡ other)
  -- no element loses a bit: the payloads of its words spell it
  pub no_bit_lost : (x : ℕ) → x < 2 ^ 64 → spelled 0 (short_words x) ≡ x
  -- ---- every file: accepted, or refused for one fault
  -- accepted are exactly the files that the writer writes, into a destination as long as the taps
  pub accepts_exactly : (file : List ℕ) (size : ℕ) (d : List ℕ) → AllBytes file
      → (unpack_short_answer file size ≡ Ok d)
      ↔ ((length d ≡ 4) × ((taps : List ℕ) × (pack_short_test taps d (length file) ≡ Ok tt)
      × (file ≡ packed_short taps d) × (size ≡ length taps)))
  -- refused is each for the fault that comes first, and for no other
  pub refuses_exactly : (file : List ℕ) (size : ℕ) (r : Refusal)
      → (unpack_short_answer file size ≡ Err r) ↔ FirstFault file size r
  pub answers : (file : List ℕ) (size : ℕ)
      → ((d : List ℕ) × (unpack_short_answer file size ≡ Ok d)) ⊎ ((r : Refusal) × FirstFault file size r)
  pub one_fault : (file : List ℕ) (size : ℕ) (r s : Refusal) → FirstFault file size r → FirstFault file size s → r ≡ s
  -- 18 exactly where an element below 2^30 has three words, those before it being accepted
  pub eighteen_exactly : (file : List ℕ) (size j : ℕ)
      → (unpack_short_answer file size ≡ Err (LongElement j)) ↔ ThreeForOne file size j
  -- ---- the editions: with the mark the full edition's reader refuses with 14, without it the short one's, and so it
  -- does where a bit among 20 to 28 is set beside it
  pub full_refuses : (file : List ℕ) (size : ℕ) → 4 ≤ length file → kind_of (word_at file 0) ≡ 0
      → mark_in (word_at file 0) ≡ 1 → unpack_answer file size ≡ Err (WrongValue 0)
  pub short_refuses : (file : List ℕ) (size : ℕ) → 4 ≤ length file → kind_of (word_at file 0) ≡ 0
      → mark_in (word_at file 0) ≡ 0 → unpack_short_answer file size ≡ Err (WrongValue 0)
  pub spare_refused : (file : List ℕ) (size : ℕ) → 4 ≤ length file → kind_of (word_at file 0) ≡ 0
      → mark_in (word_at file 0) ≡ 1 → (short_spare_in (word_at file 0) ≡ 0 → ⊥)
      → unpack_short_answer file size ≡ Err (WrongValue 0)
  -- ---- lengths: never above 144k + 100, the full file's where there is one, which they reach where no element is below
  -- 2^30, and 4 bytes an element where each is
  pub length_is : (taps claim : List ℕ) → length (packed_short taps claim) ≡ short_file_size taps claim
  pub never_longer : (taps claim : List ℕ) (k : ℕ) → length claim ≡ 4 → length taps ≡ tap_words k
      → short_file_size taps claim ≤ file_size k
  pub all_small : (taps claim : List ℕ) (k : ℕ) → length claim ≡ 4 → length taps ≡ tap_words k
      → ((i : ℕ) → i < element_count k → cell (claim ++ taps) i < 2 ^ 30)
      → short_file_size taps claim ≡ 4 + 4 * element_count k
  pub none_small : (taps claim : List ℕ) (k : ℕ) → length claim ≡ 4 → length taps ≡ tap_words k
      → ((i : ℕ) → i < element_count k → 2 ^ 30 ≤ cell (claim ++ taps) i)
      → short_file_size taps claim ≡ file_size k
  -- ---- from another language, with `'` on what a buffer holds afterwards
  -- what the one call wrote the other reads
  pub call_reads : (taps claim file file' room room' four four' : List ℕ) (code : ℕ) → length claim ≡ 4
      → PackShortCall taps claim file 0 file' → length room ≡ length taps → length four ≡ 4
      → UnpackShortCall file' code room room' four four'
      → (code ≡ 0) × (room' ≡ taps) × (four' ≡ claim)
  -- what the one call read the other writes to the same bytes
  pub call_writes_back : (file taps taps' claim claim' room room' : List ℕ) (code : ℕ) → AllBytes file
      → UnpackShortCall file 0 taps taps' claim claim' → length room ≡ length file
      → PackShortCall taps' claim' room code room'
      → (code ≡ 0) × (room' ≡ file)
  -- with room for the claim the reader's call refuses what the reader refuses; with another length it answers as for
  -- taps that find no room; nothing is written
  pub call_refuses : (file taps taps' claim claim' : List ℕ) (code : ℕ) (r : Refusal)
      → UnpackShortCall file code taps taps' claim claim' → length claim ≡ 4 → FirstFault file (length taps) r
      → (code ≡ refusal_code r) × (taps' ≡ taps) × (claim' ≡ claim)
  pub call_without : (file taps taps' claim claim' : List ℕ) (code : ℕ)
      → UnpackShortCall file code taps taps' claim claim' → (length claim ≡ 4 → ⊥)
      → (code ≡ words_code (unpack_short_answer file 0)) × (taps' ≡ taps) × (claim' ≡ claim)
