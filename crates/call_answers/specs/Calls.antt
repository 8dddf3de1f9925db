-- What each call from another language answers and leaves: the order of its refusals (document 01, "What is turned
-- back"; document 02, U1 for Edit, U5 for Unhash, U6 for c, U7 and U9 for the short edition, U8 and U9 for the
-- converters), and what its destinations hold afterwards.
-- Four words that are returned, Hash's twelve (document 02, U3) and Unhash's eight go to a destination like any other;
-- size is its length, and one other than 4, for Hash than 12, for Unhash than 8, is refused with 8, where 8 stands in
-- the order. T is the lent table, w a list of taps, t a trace, c the number of batches that is lent with a claim, n the
-- number of a tap and new the new one, s a state.
-- Assumes nothing.
use Rattle.std.specs.Prelude.{◌&&◌, List, ◌≡◌, ℕ, ◌*◌, eqb, leb, length, take, drop, Result, Ok, Err}
use Rattle.field_words.specs.Words.{first_bad, canonical_words}
use Rattle.numbers.specs.Numbers.{width, tap_words, trace_words, most_batches, is_tap_length, tap_word_batches}
use Rattle.numbers.specs.Numbers.{trace_word_batches}
use Rattle.refusals.specs.Answers.{Answer, unless, after, with_value, leaves}
use Rattle.refusals.specs.declared.Refusal.TheVariants.{TapLength, TapWord, DestinationLength, ClaimWord}
use Rattle.refusals.specs.declared.Refusal.TheVariants.{TraceWord, FileLength, NoSuchTap, NoPair}
use Rattle.table.specs.Table.{table_test, Prepares}
use Rattle.hash.specs.Hash.{final_state, input, chain, first_taps}
use Rattle.trace.specs.Trace.{trace}
use Rattle.check_constraints.specs.Constraints.{constraint_test}
use Rattle.check_trace.specs.Answers.{opening_test}
use Rattle.trace_read_off.specs.Answers.{read_off_answer, read_off_leaves}
use Rattle.trace_edit.specs.Answers.{altered_taps}
use Rattle.hash_undo.specs.Unhash.{input_before, taps_before, ends_in_zeros}
use Rattle.board_words.specs.Words.{word_at}
use Rattle.board_words.specs.Elements.{elements_test}
use Rattle.board.specs.Board.{file_size, element_count, pack_test, pack_leaves, batches_in, claim_in, taps_in}
use Rattle.board.specs.Board.{count_test}
use Rattle.board_short_read.specs.Reading.{shorts_test}
use Rattle.board_short.specs.ShortBoard.{pack_short_test, pack_short_leaves, short_claim_in, short_taps_in}
use Rattle.board_short.specs.ShortBoard.{short_count_test}
use Rattle.board_short.specs.ShortBoard.{short_batches_in}
use Rattle.board_to_short.specs.ToShort.{to_short_test, to_short_leaves}
use Rattle.board_to_full.specs.ToFull.{to_full_test, to_full_leaves}
use Rattle.call_results.specs.Code.{answer_code, tests_code}
use Rattle.call_results.specs.HandsOver.{HandsOver}
use Rattle.refusals.specs.declared.Refusal.{Refusal}

-- ---- the number of these calls: raised where a call that there was takes other parameters, or another length for the
-- same k

abbrev pub interface : ℕ
interface = 3

-- ---- the calls

-- Prepare: 1, 8, 2, 3
pub record PrepareCall (raw old : List ℕ) (code : ℕ) (new : List ℕ) : Type 0 where
  pub answer : Answer
  pub prepares : Prepares raw old answer new
  pub coded : code ≡ answer_code answer

-- Hash: 1, 2, 4, 8, 6
unfoldable pub hash_call_test : List ℕ → List ℕ → ℕ → Answer
hash_call_test T words size =
    after (table_test T)
    (unless (eqb size width) DestinationLength
    (unless (canonical_words words) (TapWord (first_bad words))
    (Ok tt)))

-- what is left of it, and of Unhash's, where the words find no room
unfoldable pub hash_no_room : List ℕ → Answer
hash_no_room T = after (table_test T) (Err DestinationLength)

unfoldable pub hash_call : List ℕ → List ℕ → ℕ → Result (List ℕ) Refusal
hash_call T words size =
    with_value (hash_call_test T words size) (final_state T (input (take 4 words) (drop 4 words)))

-- Chain: 1, 2, 4, 5, 8, 6
unfoldable pub chain_call_test : List ℕ → List ℕ → ℕ → Answer
chain_call_test T w size =
    after (table_test T)
    (unless (is_tap_length most_batches (length w)) TapLength
    (unless (eqb size 4) DestinationLength
    (unless (canonical_words w) (TapWord (first_bad w))
    (Ok tt))))

-- what is left of it, and of Build's, where the four words find no room
unfoldable pub chain_no_room : List ℕ → List ℕ → Answer
chain_no_room T w =
    after (table_test T)
    (unless (is_tap_length most_batches (length w)) TapLength
    (Err DestinationLength))

unfoldable pub chain_call : List ℕ → List ℕ → ℕ → Result (List ℕ) Refusal
chain_call T w size = with_value (chain_call_test T w size) (chain T w (tap_word_batches (length w)))

-- Build: 1, 2, 4, 5, 8, 6; both destinations are tested at 8
unfoldable pub build_call_test : List ℕ → List ℕ → ℕ → ℕ → Answer
build_call_test T w rows size =
    after (table_test T)
    (unless (is_tap_length most_batches (length w)) TapLength
    (unless (eqb size 4 && eqb rows (trace_words (tap_word_batches (length w)))) DestinationLength
    (unless (canonical_words w) (TapWord (first_bad w))
    (Ok tt))))

unfoldable pub build_call : List ℕ → List ℕ → ℕ → ℕ → Result (List ℕ) Refusal
build_call T w rows size = with_value (build_call_test T w rows size) (chain T w (tap_word_batches (length w)))

pub record BuildCall (T w : List ℕ) (code : ℕ) (old new output output' : List ℕ) : Type 0 where
  pub four : HandsOver (build_call T w (length old) (length output)) code output output'
  pub rows : new ≡ leaves (build_call_test T w (length old) (length output)) (trace T w (tap_word_batches (length w))) old

-- Read-off: 1, 2, 4, 7, 17, 8, 9, 10, 11
pub record ReadOffCall (T t claim : List ℕ) (c code : ℕ) (taps taps' : List ℕ) : Type 0 where
  pub coded : code ≡ tests_code (read_off_answer T t claim c (length taps))
  pub list : taps' ≡ read_off_leaves T t claim c taps

-- Edit: 1, 2, 4, 7, 17, 15, 8, 9, 10, 6, 11
unfoldable pub edit_call_test : List ℕ → List ℕ → List ℕ → ℕ → ℕ → List ℕ → ℕ → Answer
edit_call_test T t claim c n new size =
    after (opening_test T t c)
    (unless (leb n (3 * trace_word_batches (length t))) NoSuchTap
    (unless (eqb size 4) DestinationLength
    (unless (canonical_words claim) (ClaimWord (first_bad claim))
    (unless (canonical_words t) (TraceWord (first_bad t))
    (unless (canonical_words new) (TapWord (first_bad new))
    (constraint_test T t claim c (trace_word_batches (length t))))))))

-- what is left of it where the four words find no room
unfoldable pub edit_no_room : List ℕ → List ℕ → ℕ → ℕ → Answer
edit_no_room T t c n =
    after (opening_test T t c)
    (unless (leb n (3 * trace_word_batches (length t))) NoSuchTap
    (Err DestinationLength))

unfoldable pub edit_call : List ℕ → List ℕ → List ℕ → ℕ → ℕ → List ℕ → ℕ → Result (List ℕ) Refusal
edit_call T t claim c n new size =
    with_value (edit_call_test T t claim c n new size) (chain T (first_taps c (altered_taps T t n new)) c)

-- the trace t is lent to be altered, and t' is what it is afterwards
pub record EditCall (T t claim : List ℕ) (c n : ℕ) (new : List ℕ) (code : ℕ) (t' output output' : List ℕ)
    : Type 0 where
  pub four : HandsOver (edit_call T t claim c n new (length output)) code output output'
  pub rows : t' ≡ leaves (edit_call_test T t claim c n new (length output))
      (trace T (altered_taps T t n new) (trace_word_batches (length t))) t

-- Unhash: 1, 2, 4, 8, 6, 16
unfoldable pub unhash_call_test : List ℕ → List ℕ → ℕ → Answer
unhash_call_test T s size =
    after (table_test T)
    (unless (eqb size 8) DestinationLength
    (unless (canonical_words s) (TapWord (first_bad s))
    (unless (ends_in_zeros (input_before T s)) NoPair
    (Ok tt))))

-- its two taps go to a destination of eight words, the first tap first
pub record UnhashCall (T s : List ℕ) (code : ℕ) (old new : List ℕ) : Type 0 where
  pub coded : code ≡ answer_code (unhash_call_test T s (length old))
  pub taps : new ≡ leaves (unhash_call_test T s (length old)) (taps_before T s) old

-- Pack: 5, 8, 9, 6
pub record PackCall (taps claim old : List ℕ) (code : ℕ) (new : List ℕ) : Type 0 where
  pub coded : code ≡ answer_code (pack_test taps claim (length old))
  pub file : new ≡ pack_leaves taps claim old

-- Unpack: 12 (below 4), word 0's 13 then 14, 12, 8, then each element's three kinds and its value; both destinations
-- are tested at 8
unfoldable pub unpack_call_test : List ℕ → ℕ → ℕ → Answer
unpack_call_test file taps size =
    unless (leb 4 (length file)) FileLength
    (after (count_test (word_at file 0))
    (unless (eqb (length file) (file_size (batches_in file))) FileLength
    (unless (eqb size 4 && eqb taps (tap_words (batches_in file))) DestinationLength
    (elements_test file 1 (element_count (batches_in file))))))

unfoldable pub unpack_call : List ℕ → ℕ → ℕ → Result (List ℕ) Refusal
unpack_call file taps size = with_value (unpack_call_test file taps size) (claim_in file)

pub record UnpackCall (file : List ℕ) (code : ℕ) (taps taps' claim claim' : List ℕ) : Type 0 where
  pub four : HandsOver (unpack_call file (length taps) (length claim)) code claim claim'
  pub list : taps' ≡ leaves (unpack_call_test file (length taps) (length claim)) (taps_in file) taps

-- the short edition's writer: 5, 8, 9, 6
pub record PackShortCall (taps claim old : List ℕ) (code : ℕ) (new : List ℕ) : Type 0 where
  pub coded : code ≡ answer_code (pack_short_test taps claim (length old))
  pub file : new ≡ pack_short_leaves taps claim old

-- its reader: 12 (below 4), word 0's 13 then 14, 8, then element by element 12 where the input ends, 13, 14, 18, and 12
-- for bytes after the last; both destinations are tested at 8
unfoldable pub unpack_short_call_test : List ℕ → ℕ → ℕ → Answer
unpack_short_call_test file taps size =
    unless (leb 4 (length file)) FileLength
    (after (short_count_test (word_at file 0))
    (unless (eqb size 4 && eqb taps (tap_words (short_batches_in file))) DestinationLength
    (shorts_test file 1 (element_count (short_batches_in file)))))

unfoldable pub unpack_short_call : List ℕ → ℕ → ℕ → Result (List ℕ) Refusal
unpack_short_call file taps size = with_value (unpack_short_call_test file taps size) (short_claim_in file)

pub record UnpackShortCall (file : List ℕ) (code : ℕ) (taps taps' claim claim' : List ℕ) : Type 0 where
  pub four : HandsOver (unpack_short_call file (length taps) (length claim)) code claim claim'
  pub list : taps' ≡ leaves (unpack_short_call_test file (length taps) (length claim)) (short_taps_in file) taps

-- from the full edition to the short one: 12 (below 4), word 0's 13, 19, 14, 12, then each element's 13 and 14, and
-- last 8
pub record ToShortCall (file old : List ℕ) (code : ℕ) (new : List ℕ) : Type 0 where
  pub coded : code ≡ answer_code (to_short_test file (length old))
  pub short : new ≡ to_short_leaves file old

-- and back: 12 (below 4), word 0's 13, 19, 14, right after it 14 for more batches than a full file has, then element by
-- element 12 where the input ends, 13, 14, 18, and 12 for bytes after the last, and last 8
pub record ToFullCall (short old : List ℕ) (code : ℕ) (new : List ℕ) : Type 0 where
  pub coded : code ≡ answer_code (to_full_test short (length old))
  pub file : new ≡ to_full_leaves short old
