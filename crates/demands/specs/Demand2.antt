-- Demand 2 (document 00; document 02, U3, for the twelve cells of Hash, and U6 for c): hash, chain and trace are those
-- of the Rescue STARK documentation 1.0 for every accepted table; reading off a built trace, under the output its
-- building returned, yields the taps that it was built from; a packed board file unpacks to its taps and claim, and an
-- accepted file packs to the same bytes. The same of the calls.
-- Assumes nothing.
use Rattle.std.specs.Prelude.{◌≡◌, List, ◌++◌, ◌↔◌, ℕ, ◌+◌, ◌*◌, ◌-◌, ◌≤◌, length, take, Ok}
use Rattle.field_words.specs.Words.{AllCanonical}
use Rattle.numbers.specs.Numbers.{batch_rows, tap_words, trace_words, IsPermitted, IsPermittedTo, tap_word_batches}
use Rattle.refusals.specs.Refusals.{indexed}
use Rattle.table.specs.Table.{table_test}
use Rattle.hash.specs.Hash.{final_state, input, hash, chain, first_taps}
use Rattle.hash.specs.Answers.{hash_answer}
use Rattle.hash_chain.specs.Answers.{chain_answer}
use Rattle.trace.specs.Trace.{trace, row}
use Rattle.trace.specs.Answers.{build_answer, build_leaves}
use Rattle.trace_read_off.specs.Answers.{read_off_answer, read_off_leaves}
use Rattle.board_words.specs.Words.{AllBytes}
use Rattle.board.specs.Board.{most_file_batches, file_size, pack_test, packed, pack_leaves, unpack_answer}
use Rattle.board.specs.Board.{unpack_leaves}
use Rattle.call_results.specs.Code.{Says}
use Rattle.call_answers.specs.Calls.{BuildCall, ReadOffCall, PackCall, UnpackCall}

pub record Demand2 : Type 0 where
  -- for every accepted table and permitted k, hash, chain and trace of canonical words are those of the definitions. Of
  -- Hash, the twelve cells are Algorithm 1's final state, and cells 0 to 3 the documentation's hash
  pub hashes : (T a b : List ℕ) → table_test T ≡ Ok tt → length a ≡ 4 → AllCanonical a → length b ≡ 4
      → AllCanonical b
      → (s : List ℕ) × (hash_answer T (a ++ b) ≡ Ok s)
      × (s ≡ final_state T (input a b)) × (take 4 s ≡ hash T a b)
  pub chains : (T w : List ℕ) (k : ℕ) → table_test T ≡ Ok tt → IsPermitted k → length w ≡ tap_words k
      → AllCanonical w
      → chain_answer T w ≡ Ok (chain T w k)
  pub builds : (T w old : List ℕ) (k : ℕ) → table_test T ≡ Ok tt → IsPermitted k → length w ≡ tap_words k
      → AllCanonical w → length old ≡ trace_words k
      → (build_answer T w (length old) ≡ Ok (chain T w k)) × (build_leaves T w old ≡ trace T w k)
  -- a trace that Build wrote into old, read off with c = k under the output d that it returned
  pub reads_back : (T w old room d : List ℕ) → build_answer T w (length old) ≡ Ok d
      → length room ≡ length w
      → let k = tap_word_batches (length w) in
      (read_off_answer T (build_leaves T w old) d k (length room) ≡ Ok (372 * k))
      × (read_off_leaves T (build_leaves T w old) d k room ≡ w)
  -- and with every c from 1 to k under the output of the first 3c + 1 taps, which row 31 of batch c − 1 shows
  pub reads_back_early : (T w old room : List ℕ) (c : ℕ) (d : List ℕ) → build_answer T w (length old) ≡ Ok d
      → length room ≡ length w → 1 ≤ c → c ≤ tap_word_batches (length w)
      → let claim = chain T (first_taps c w) c in
      (read_off_answer T (build_leaves T w old) claim c (length room) ≡ Ok (372 * tap_word_batches (length w)))
      × (read_off_leaves T (build_leaves T w old) claim c room ≡ w)
      × (take 4 (row (build_leaves T w old) (batch_rows * (c - 1) + 31)) ≡ claim)
  -- Pack accepts exactly taps of k batches, k permitted in a file, and a claim, of words below p, into 144k + 100 bytes
  pub pack_accepts : (w claim : List ℕ) (size : ℕ) → length claim ≡ 4
      → (pack_test w claim size ≡ Ok tt)
      ↔ ((k : ℕ) × IsPermittedTo most_file_batches k × (length w ≡ tap_words k) × AllCanonical w × AllCanonical claim
      × (size ≡ file_size k))
  -- a file that Pack wrote into old, unpacked
  pub unpacks : (w claim old room : List ℕ) → length claim ≡ 4 → pack_test w claim (length old) ≡ Ok tt
      → length room ≡ length w
      → (unpack_answer (pack_leaves w claim old) (length room) ≡ Ok claim)
      × (unpack_leaves (pack_leaves w claim old) room ≡ w)
  -- a file that Unpack accepted with the claim d, packed from the taps that it left in old
  pub packs : (file old room d : List ℕ) → AllBytes file → unpack_answer file (length old) ≡ Ok d
      → length room ≡ length file
      → (pack_test (unpack_leaves file old) d (length room) ≡ Ok tt)
      × (pack_leaves (unpack_leaves file old) d room ≡ file)
  -- Unpack accepts exactly the files that Pack writes, into a destination as long as the taps
  pub unpack_accepts : (file : List ℕ) (size : ℕ) (d : List ℕ) → AllBytes file
      → (unpack_answer file size ≡ Ok d)
      ↔ ((length d ≡ 4) × ((taps : List ℕ) × (pack_test taps d (length file) ≡ Ok tt)
      × (file ≡ packed taps d) × (size ≡ length taps)))
  -- ---- from another language, with `'` on what a buffer holds afterwards
  -- what Build's call wrote and returned Read-off's gives back as the taps
  pub call_reads_back : (T w rows rows' output output' room room' : List ℕ) (code : ℕ)
      → BuildCall T w 0 rows rows' output output' → length room ≡ length w
      → let k = tap_word_batches (length w) in
      ReadOffCall T rows' output' k code room room' → Says code (indexed 0 (372 * k)) × (room' ≡ w)
  -- what Pack's call wrote Unpack's reads
  pub call_unpacks : (w claim file file' room room' four four' : List ℕ) (code : ℕ) → length claim ≡ 4
      → PackCall w claim file 0 file' → length room ≡ length w → length four ≡ 4
      → UnpackCall file' code room room' four four'
      → (code ≡ 0) × (room' ≡ w) × (four' ≡ claim)
  -- what Unpack's call read Pack's writes to the same bytes
  pub call_packs : (file taps taps' claim claim' room room' : List ℕ) (code : ℕ) → AllBytes file
      → UnpackCall file 0 taps taps' claim claim' → length room ≡ length file → PackCall taps' claim' room code room'
      → (code ≡ 0) × (room' ≡ file)
