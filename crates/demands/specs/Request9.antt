-- Request 9 (document 02, U9): up to 262144 batches. A list of taps and a trace have up to 2^18 batches in every
-- operation; the full edition of the board file stays at 1024. Refusals 5, 7 and the 14 of word 0 come exactly where no
-- permitted k is counted. A short file that was accepted before is accepted still, with the same claim and taps. A short file of more
-- batches than a full one can have has no full form. Demands 1 to 3 and requests 1 to 8 hold for all of these k: they
-- are stated over `IsPermitted`.
-- Assumes nothing.
use Rattle.std.specs.Prelude.{◌≡◌, List, ◌↔◌, ◌⊎◌, ℕ, ◌+◌, ◌*◌, ◌^◌, ◌≤◌, ◌<◌, length, Ok, Err}
use Rattle.field_words.specs.Words.{AllCanonical}
use Rattle.numbers.specs.Numbers.{trace_row_count, trace_words, tap_words, IsPermittedTo, IsPermitted, most_batches}
use Rattle.refusals.specs.declared.Refusal.TheVariants.{TapLength, TraceLength, WrongValue}
use Rattle.table.specs.Table.{table_test}
use Rattle.hash.specs.Hash.{chain}
use Rattle.hash_chain.specs.Answers.{chain_answer}
use Rattle.trace.specs.Trace.{trace}
use Rattle.trace.specs.Answers.{build_answer, build_leaves}
use Rattle.check_trace.specs.Answers.{check_answer}
use Rattle.trace_read_off.specs.Answers.{read_off_answer}
use Rattle.trace_edit.specs.Answers.{edit_answer}
use Rattle.board_words.specs.Words.{kind_of, word_at}
use Rattle.board.specs.Board.{most_file_batches, count_word, element_count, pack_test, unpack_answer, unpack_leaves}
use Rattle.board_short.specs.ShortBoard.{short_count_word, short_file_size, pack_short_test, pack_short_leaves}
use Rattle.board_short.specs.ShortBoard.{unpack_short_answer, unpack_short_leaves}
use Rattle.board_edition.specs.Edition.{short_mark, HasMark}
use Rattle.board_to_full.specs.ToFull.{to_full_test, to_full_leaves, NoFullForm}
use Rattle.call_results.specs.Code.{refusal_code}
use Rattle.call_answers.specs.Calls.{PackCall, UnpackShortCall, ToFullCall}
use Rattle.demands.specs.Stored.{stored_pack_test, stored_pack_leaves, stored_unpack_answer, stored_unpack_leaves}

-- there are as many words as the taps of k batches have, k permitted up to the most
abbrev pub TapsFit : ℕ → List ℕ → Type 0
TapsFit most w = (k : ℕ) × IsPermittedTo most k × (length w ≡ tap_words k)

-- there are as many words as a trace of k batches has, k permitted
abbrev pub RowsFit : List ℕ → Type 0
RowsFit t = (k : ℕ) × IsPermitted k × (length t ≡ trace_words k)

-- a file's word 0 is there, of kind 0, and no `counted` of a k permitted up to the most
pub record WrongCount (file : List ℕ) (most : ℕ) (counted : ℕ → ℕ) : Type 0 where
  pub four : 4 ≤ length file
  pub kind : kind_of (word_at file 0) ≡ 0
  pub no_count : (k : ℕ) → IsPermittedTo most k → word_at file 0 ≡ counted k → ⊥

pub record Request9 : Type 0 where
  -- ---- the permitted k: the powers of two up to 2^18, in the full edition up to 2^10
  pub permitted_exactly : (k : ℕ) → IsPermitted k ↔ ((j : ℕ) × (j ≤ 18) × (k ≡ 2 ^ j))
  pub full_exactly : (k : ℕ) → IsPermittedTo most_file_batches k ↔ ((j : ℕ) × (j ≤ 10) × (k ≡ 2 ^ j))
  -- ---- 5: exactly where the words are not as many as the taps of so many batches
  pub chain_5 : (T w : List ℕ) → table_test T ≡ Ok tt
      → (chain_answer T w ≡ Err TapLength) ↔ (TapsFit most_batches w → ⊥)
  pub build_5 : (T w : List ℕ) (size : ℕ) → table_test T ≡ Ok tt
      → (build_answer T w size ≡ Err TapLength) ↔ (TapsFit most_batches w → ⊥)
  pub pack_5 : (w claim : List ℕ) (size : ℕ)
      → (pack_test w claim size ≡ Err TapLength) ↔ (TapsFit most_file_batches w → ⊥)
  pub pack_short_5 : (w claim : List ℕ) (size : ℕ)
      → (pack_short_test w claim size ≡ Err TapLength) ↔ (TapsFit most_batches w → ⊥)
  -- ---- 7: exactly where the words are not as many as a trace of so many batches has
  pub check_7 : (T t claim : List ℕ) (c : ℕ) → table_test T ≡ Ok tt
      → (check_answer T t claim c ≡ Err TraceLength) ↔ (RowsFit t → ⊥)
  pub read_off_7 : (T t claim : List ℕ) (c size : ℕ) → table_test T ≡ Ok tt
      → (read_off_answer T t claim c size ≡ Err TraceLength) ↔ (RowsFit t → ⊥)
  pub edit_7 : (T t claim : List ℕ) (c n : ℕ) (new : List ℕ) → table_test T ≡ Ok tt
      → (edit_answer T t claim c n new ≡ Err TraceLength) ↔ (RowsFit t → ⊥)
  -- ---- 14 with word 0: exactly where that is no count of so many batches; by the converter to the full edition, in a
  -- short file, no count of so many as a full file has
  pub unpack_14 : (file : List ℕ) (size : ℕ)
      → (unpack_answer file size ≡ Err (WrongValue 0)) ↔ WrongCount file most_file_batches count_word
  pub unpack_short_14 : (file : List ℕ) (size : ℕ)
      → (unpack_short_answer file size ≡ Err (WrongValue 0)) ↔ WrongCount file most_batches short_count_word
  pub to_full_14 : (file : List ℕ) (size : ℕ)
      → (to_full_test file size ≡ Err (WrongValue 0))
      ↔ (HasMark file short_mark × WrongCount file most_file_batches short_count_word)
  -- ---- a list of 24580 words, which got 5 everywhere, is of 2048 batches, and still gets 5 from the full edition's
  -- writer
  pub chains_24580 : (T w : List ℕ) → table_test T ≡ Ok tt → length w ≡ 24580 → AllCanonical w
      → chain_answer T w ≡ Ok (chain T w 2048)
  pub builds_24580 : (T w old : List ℕ) → table_test T ≡ Ok tt → length w ≡ 24580 → AllCanonical w
      → length old ≡ trace_words 2048
      → (build_answer T w (length old) ≡ Ok (chain T w 2048)) × (build_leaves T w old ≡ trace T w 2048)
  pub packs_24580 : (w claim : List ℕ) (size : ℕ) → length w ≡ 24580 → AllCanonical w → length claim ≡ 4
      → AllCanonical claim
      → (pack_short_test w claim (short_file_size w claim) ≡ Ok tt)
      × (pack_test w claim size ≡ Err TapLength)
  -- ---- short files already stored: what the reader before U9 accepted is accepted, with the same claim and taps
  pub stored_reads : (file old d : List ℕ) → stored_unpack_answer file (length old) ≡ Ok d
      → (unpack_short_answer file (length old) ≡ Ok d)
      × (unpack_short_leaves file old ≡ stored_unpack_leaves file old)
  -- and every other file gets the answer that it got, but where word 0 counts more than 1024 batches, which got 14
  pub stored_answers : (file old : List ℕ)
      → ((unpack_short_answer file (length old) ≡ stored_unpack_answer file (length old))
      × (unpack_short_leaves file old ≡ stored_unpack_leaves file old))
      ⊎ (NoFullForm file × (stored_unpack_answer file (length old) ≡ Err (WrongValue 0)))
  -- what the writer wrote it writes
  pub stored_writes : (taps claim old : List ℕ) → stored_pack_test taps claim (length old) ≡ Ok tt
      → (pack_short_test taps claim (length old) ≡ Ok tt)
      × (pack_short_leaves taps claim old ≡ stored_pack_leaves taps claim old)
  -- ---- a larger short file has no full form: the converter refuses it with 14 and writes nothing, whatever comes
  -- after word 0 and however long the destination is
  pub larger_refused : (file old : List ℕ) → NoFullForm file
      → (to_full_test file (length old) ≡ Err (WrongValue 0)) × (to_full_leaves file old ≡ old)
  -- of a file that the short edition's reader accepts, with the claim d and the taps that it leaves in room: it is such
  -- a one exactly where Unpack reads that claim and those taps from no bytes
  pub no_form_exactly : (file room d : List ℕ) → unpack_short_answer file (length room) ≡ Ok d
      → NoFullForm file
      ↔ ((full : List ℕ) → unpack_answer full (length room) ≡ Ok d
      → unpack_leaves full room ≡ unpack_short_leaves file room → ⊥)
  -- ---- each part of a returned word has room at every permitted k, so that no answer loses anything by its bits
  -- (demand 1): the row of refusal 11, its place among the tests and the number of all tests, the index in a trace, in
  -- a list and in a file of either edition
  pub rooms : (k : ℕ) → IsPermitted k
      → (trace_row_count k < 2 ^ 24) × (372 * k < 2 ^ 28) × (trace_words k < 2 ^ 28) × (tap_words k < 2 ^ 28)
      × (1 + 3 * element_count k < 2 ^ 28)
  -- ---- from another language, with `'` on what a buffer holds afterwards
  -- a stored file is read as it was
  pub call_stored : (file taps taps' claim claim' : List ℕ) (code : ℕ) (d : List ℕ)
      → stored_unpack_answer file (length taps) ≡ Ok d → length claim ≡ 4
      → UnpackShortCall file code taps taps' claim claim'
      → (code ≡ 0) × (taps' ≡ stored_unpack_leaves file taps) × (claim' ≡ d)
  -- the full edition takes no more than it took: 5 from its writer, 14 from the converter to it, and nothing is written
  pub call_pack_5 : (w claim old new : List ℕ) (code : ℕ) → PackCall w claim old code new
      → (TapsFit most_file_batches w → ⊥) → (code ≡ refusal_code TapLength) × (new ≡ old)
  pub call_larger_refused : (file old new : List ℕ) (code : ℕ) → ToFullCall file old code new → NoFullForm file
      → (code ≡ refusal_code (WrongValue 0)) × (new ≡ old)
