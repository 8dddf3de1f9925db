-- Request 8 (document 02, U8): between the full and the short edition. A converter answers and writes what reading the
-- one edition and writing the other does: same claim, same taps, and there and back gives the starting bytes. A file
-- that its reader refuses is refused for the same, but one that is already in the wanted edition with 19, and a short
-- one of more batches than a full file has with 14 (U9), whatever comes after word 0; and 8 comes last.
-- Assumes nothing.
use Rattle.std.specs.Prelude.{◌≡◌, List, ◌↔◌, ℕ, length, Ok}
use Rattle.numbers.specs.Numbers.{tap_words}
use Rattle.refusals.specs.declared.Refusal.{Refusal}
use Rattle.board_words.specs.Words.{AllBytes}
use Rattle.board.specs.Board.{pack_test, packed, pack_leaves, batches_in, claim_in, taps_in, unpack_answer}
use Rattle.board.specs.Board.{unpack_leaves}
use Rattle.board_short.specs.ShortBoard.{pack_short_test, packed_short, pack_short_leaves, short_batches_in}
use Rattle.board_short.specs.ShortBoard.{short_claim_in}
use Rattle.board_short.specs.ShortBoard.{short_taps_in, unpack_short_answer, unpack_short_leaves}
use Rattle.board_edition.specs.Edition.{full_mark, short_mark, ConverterFault, ConverterAnswers}
use Rattle.board_to_short.specs.ToShort.{to_short_test, to_short_leaves}
use Rattle.board_to_full.specs.ToFull.{to_full_test, to_full_leaves, NoFullForm}
use Rattle.call_results.specs.Code.{refusal_code}
use Rattle.call_answers.specs.Calls.{PackCall, UnpackCall, PackShortCall, UnpackShortCall, ToShortCall, ToFullCall}

-- the destination has the length of the output
abbrev pub FitsShort : List ℕ → ℕ → Type 0
FitsShort file size = size ≡ length (packed_short (taps_in file) (claim_in file))

abbrev pub FitsFull : List ℕ → ℕ → Type 0
FitsFull file size = size ≡ length (packed (short_taps_in file) (short_claim_in file))

pub record Request8 : Type 0 where
  -- ---- same claim, same taps, other edition
  -- a file that its reader accepts, with the claim d and the taps that it leaves in room: the converter answers what
  -- the other edition's writer does, and leaves in old what that does; to the full edition, where the file has a form
  -- there
  pub to_short_writes : (file old room d : List ℕ) → unpack_answer file (length room) ≡ Ok d
      → (to_short_test file (length old) ≡ pack_short_test (unpack_leaves file room) d (length old))
      × (to_short_leaves file old ≡ pack_short_leaves (unpack_leaves file room) d old)
  pub to_full_writes : (file old room d : List ℕ) → unpack_short_answer file (length room) ≡ Ok d
      → (NoFullForm file → ⊥)
      → (to_full_test file (length old) ≡ pack_test (unpack_short_leaves file room) d (length old))
      × (to_full_leaves file old ≡ pack_leaves (unpack_short_leaves file room) d old)
  -- what was converted is read as the file was, into any room
  pub to_short_reads : (file old room : List ℕ) → to_short_test file (length old) ≡ Ok tt
      → (unpack_short_answer (to_short_leaves file old) (length room) ≡ unpack_answer file (length room))
      × (unpack_short_leaves (to_short_leaves file old) room ≡ unpack_leaves file room)
  pub to_full_reads : (file old room : List ℕ) → to_full_test file (length old) ≡ Ok tt
      → (unpack_answer (to_full_leaves file old) (length room) ≡ unpack_short_answer file (length room))
      × (unpack_leaves (to_full_leaves file old) room ≡ unpack_short_leaves file room)
  -- ---- there and back
  pub there_and_back : (file old back : List ℕ) → AllBytes file → to_short_test file (length old) ≡ Ok tt
      → length back ≡ length file
      → (to_full_test (to_short_leaves file old) (length back) ≡ Ok tt)
      × (to_full_leaves (to_short_leaves file old) back ≡ file)
  pub back_and_there : (file old back : List ℕ) → AllBytes file → to_full_test file (length old) ≡ Ok tt
      → length back ≡ length file
      → (to_short_test (to_full_leaves file old) (length back) ≡ Ok tt)
      × (to_short_leaves (to_full_leaves file old) back ≡ file)
  -- ---- every file, beside what its reader answers, lent room for the taps: accepted or refused, for which one fault,
  -- when with 19 and when with 8; every full file has a short form
  pub to_short_answers : (file : List ℕ) (size : ℕ)
      → ConverterAnswers file short_mark (unpack_answer file (tap_words (batches_in file))) ⊥ (FitsShort file size)
      (to_short_test file size)
  pub to_full_answers : (file : List ℕ) (size : ℕ)
      → ConverterAnswers file full_mark (unpack_short_answer file (tap_words (short_batches_in file))) (NoFullForm file)
      (FitsFull file size) (to_full_test file size)
  -- ---- from another language, with `'` on what a buffer holds afterwards
  -- a file that the reader's call reads: the converter's call is the writer's
  pub call_to_short : (file taps taps' claim claim' old new new' : List ℕ) (code code' : ℕ)
      → UnpackCall file 0 taps taps' claim claim' → ToShortCall file old code new
      → PackShortCall taps' claim' old code' new' → (code ≡ code') × (new ≡ new')
  pub call_to_full : (file taps taps' claim claim' old new new' : List ℕ) (code code' : ℕ)
      → UnpackShortCall file 0 taps taps' claim claim' → (NoFullForm file → ⊥)
      → ToFullCall file old code new → PackCall taps' claim' old code' new' → (code ≡ code') × (new ≡ new')
  -- a call returns 0 exactly where the reader accepts, lent room for the taps, the file has a form in the other
  -- edition, and the length fits
  pub call_to_short_accepts : (file old new : List ℕ) (code : ℕ) → ToShortCall file old code new
      → (code ≡ 0)
      ↔ ((d : List ℕ) × (unpack_answer file (tap_words (batches_in file)) ≡ Ok d) × FitsShort file (length old))
  pub call_to_full_accepts : (file old new : List ℕ) (code : ℕ) → ToFullCall file old code new
      → (code ≡ 0)
      ↔ ((d : List ℕ) × (unpack_short_answer file (tap_words (short_batches_in file)) ≡ Ok d)
      × (NoFullForm file → ⊥) × FitsFull file (length old))
  -- there and back
  pub calls_there_and_back : (file old new back back' : List ℕ) (code : ℕ) → AllBytes file → ToShortCall file old 0 new
      → length back ≡ length file → ToFullCall new back code back' → (code ≡ 0) × (back' ≡ file)
  pub calls_back_and_there : (file old new back back' : List ℕ) (code : ℕ) → AllBytes file → ToFullCall file old 0 new
      → length back ≡ length file → ToShortCall new back code back' → (code ≡ 0) × (back' ≡ file)
  -- a refusal says its fault, and nothing is written
  pub call_to_short_refuses : (file old new : List ℕ) (code : ℕ) (r : Refusal) → ToShortCall file old code new
      → ConverterFault file short_mark (unpack_answer file (tap_words (batches_in file))) ⊥ (FitsShort file (length old)) r
      → (code ≡ refusal_code r) × (new ≡ old)
  pub call_to_full_refuses : (file old new : List ℕ) (code : ℕ) (r : Refusal) → ToFullCall file old code new
      → ConverterFault file full_mark (unpack_short_answer file (tap_words (short_batches_in file))) (NoFullForm file)
      (FitsFull file (length old)) r
      → (code ≡ refusal_code r) × (new ≡ old)
