-- What is turned back, and why (document 01, "What is turned back"; document 02): the causes for which each operation
-- and its call refuse, in their order. The first that holds gives the refusal, and where none does they accept. The
-- short edition's reader and the converters have theirs in requests 7 and 8.
-- Assumes nothing.
use Rattle.std.specs.Prelude.{◌≡◌, List, ◌↔◌, ℕ, ◌+◌, ◌*◌, ◌≤◌, ◌<◌, length}
use Rattle.field.specs.Field.{P}
use Rattle.field_words.specs.Words.{IsFirstBad}
use Rattle.numbers.specs.Numbers.{width, tap_words, trace_words, most_batches, IsPermittedTo, IsPermitted}
use Rattle.numbers.specs.Numbers.{tap_word_batches, trace_word_batches}
use Rattle.refusals.specs.Refusals.{told}
use Rattle.refusals.specs.Causes.{by, by_index, in_order, DecidedBy}
use Rattle.refusals.specs.declared.Refusal.{Refusal}
use Rattle.refusals.specs.declared.Refusal.TheVariants.{TableLength, TableWord, NoInverse, WrongInverse, TapLength}
use Rattle.refusals.specs.declared.Refusal.TheVariants.{TapWord, TraceLength, DestinationLength, ClaimWord, TraceWord}
use Rattle.refusals.specs.declared.Refusal.TheVariants.{Constraint, FileLength, WrongKind, WrongValue, NoSuchTap}
use Rattle.refusals.specs.declared.Refusal.TheVariants.{NoPair, ClaimBatches}
use Rattle.matrix.specs.Matrix.{Kernel, entry}
use Rattle.table.specs.Table.{raw_words, table_words, IsFirstUnlike, raw_matrix, table_test, Prepares}
use Rattle.hash.specs.Answers.{hash_test}
use Rattle.hash_chain.specs.Answers.{chain_test}
use Rattle.trace.specs.Answers.{build_test}
use Rattle.check_constraints.specs.Constraints.{tests}
use Rattle.check_constraints.specs.FirstFailing.{IsFirstFailing}
use Rattle.check_trace.specs.Answers.{check_test, check_answer}
use Rattle.trace_read_off.specs.Answers.{read_off_test}
use Rattle.trace_edit.specs.Answers.{edit_test}
use Rattle.hash_undo.specs.Answers.{unhash_test}
use Rattle.board_words.specs.Words.{kind_of, word_at}
use Rattle.board_words.specs.Elements.{element_at, IsElement}
use Rattle.board.specs.Board.{most_file_batches, count_word, file_size, element_count, pack_test, batches_in}
use Rattle.board.specs.Board.{unpack_test}
use Rattle.board_short.specs.ShortBoard.{short_file_size, pack_short_test}
use Rattle.call_results.specs.Code.{tests_code, number_in, Says}
use Rattle.call_results.specs.HandsOver.{HandsOver}
use Rattle.call_answers.specs.Calls.{PrepareCall, hash_call, chain_call, BuildCall, ReadOffCall, EditCall, UnhashCall}
use Rattle.call_answers.specs.Calls.{PackCall}
use Rattle.call_answers.specs.Calls.{UnpackCall, PackShortCall}
use Rattle.demands.specs.Request5.{EndsIn}
use Rattle.refusals.specs.Answers.{Answer}

-- ---- the table: 1, 2, 4
abbrev pub table_causes : List ℕ → Refusal → Type 0
table_causes T =
    in_order (by TableLength (length T ≡ table_words → ⊥))
    (in_order (by_index TableWord (IsFirstBad T))
    (by_index WrongInverse (IsFirstUnlike T)))

-- ---- Prepare: 1, 8, 2, and then 3, where M takes some non-zero column to zeros
abbrev pub raw_causes : List ℕ → ℕ → Refusal → Type 0
raw_causes raw size =
    in_order (by TableLength (length raw ≡ raw_words → ⊥))
    (in_order (by DestinationLength (size ≡ table_words → ⊥))
    (by_index TableWord (IsFirstBad raw)))

abbrev pub prepare_causes : List ℕ → ℕ → Refusal → Type 0
prepare_causes raw size = in_order (raw_causes raw size) (by NoInverse (Kernel width (entry (raw_matrix raw))))

-- ---- Hash: 1, 2, 4, 6; from another language 1, 2, 4, 8, 6
abbrev pub hash_causes : List ℕ → List ℕ → Refusal → Type 0
hash_causes T words = in_order (table_causes T) (by_index TapWord (IsFirstBad words))

abbrev pub hash_call_causes : List ℕ → List ℕ → ℕ → Refusal → Type 0
hash_call_causes T words size =
    in_order (table_causes T)
    (in_order (by DestinationLength (size ≡ width → ⊥))
    (by_index TapWord (IsFirstBad words)))

-- ---- Chain: 1, 2, 4, 5, 6, from another language 1, 2, 4, 5, 8, 6; Build: 1, 2, 4, 5, 8, 6

-- the list has the length of 3k + 1 taps for no k that is permitted
abbrev pub NoTapLength : ℕ → List ℕ → Type 0
NoTapLength most w = (k : ℕ) → IsPermittedTo most k → length w ≡ tap_words k → ⊥

abbrev pub chain_causes : List ℕ → List ℕ → Refusal → Type 0
chain_causes T w =
    in_order (table_causes T)
    (in_order (by TapLength (NoTapLength most_batches w))
    (by_index TapWord (IsFirstBad w)))

-- the trace of the list fits
abbrev pub RowsFit : List ℕ → ℕ → Type 0
RowsFit w size = size ≡ trace_words (tap_word_batches (length w))

-- Room is that the destinations have their lengths
abbrev pub written_causes : List ℕ → List ℕ → Type 0 → Refusal → Type 0
written_causes T w Room =
    in_order (table_causes T)
    (in_order (by TapLength (NoTapLength most_batches w))
    (in_order (by DestinationLength (Room → ⊥))
    (by_index TapWord (IsFirstBad w))))

-- ---- Check: 1, 2, 4, 7, 17, 9, 10, 11; Read-off: 1, 2, 4, 7, 17, 8, 9, 10, 11; and Edit: 1, 2, 4, 7, 17, 15, 9, 10,
-- 6, 11, from another language 1, 2, 4, 7, 17, 15, 8, 9, 10, 6, 11
abbrev pub NoTraceLength : List ℕ → Type 0
NoTraceLength t = (k : ℕ) → IsPermitted k → length t ≡ trace_words k → ⊥

abbrev pub opening_causes : List ℕ → List ℕ → ℕ → Refusal → Type 0
opening_causes T t c =
    in_order (table_causes T)
    (in_order (by TraceLength (NoTraceLength t))
    (by ClaimBatches ((1 ≤ c) × (c ≤ trace_word_batches (length t)) → ⊥)))

-- the first test in the order that fails
abbrev pub constraint_causes : List ℕ → List ℕ → List ℕ → ℕ → Refusal → Type 0
constraint_causes T t claim c r =
    (i : ℕ) × (q : ℕ) × (n : ℕ) × IsFirstFailing T t claim (tests (trace_word_batches (length t)) c) i q n
    × (r ≡ Constraint (record { 0 = i }) q n)

abbrev pub check_causes : List ℕ → List ℕ → List ℕ → ℕ → Refusal → Type 0
check_causes T t claim c =
    in_order (opening_causes T t c)
    (in_order (by_index ClaimWord (IsFirstBad claim))
    (in_order (by_index TraceWord (IsFirstBad t))
    (constraint_causes T t claim c)))

abbrev pub read_off_causes : List ℕ → List ℕ → List ℕ → ℕ → ℕ → Refusal → Type 0
read_off_causes T t claim c size =
    in_order (opening_causes T t c)
    (in_order (by DestinationLength (size ≡ tap_words (trace_word_batches (length t)) → ⊥))
    (in_order (by_index ClaimWord (IsFirstBad claim))
    (in_order (by_index TraceWord (IsFirstBad t))
    (constraint_causes T t claim c))))

abbrev pub edit_causes : List ℕ → List ℕ → List ℕ → ℕ → ℕ → List ℕ → Refusal → Type 0
edit_causes T t claim c n new =
    in_order (opening_causes T t c)
    (in_order (by NoSuchTap (3 * trace_word_batches (length t) < n))
    (in_order (by_index ClaimWord (IsFirstBad claim))
    (in_order (by_index TraceWord (IsFirstBad t))
    (in_order (by_index TapWord (IsFirstBad new))
    (constraint_causes T t claim c)))))

abbrev pub edit_call_causes : List ℕ → List ℕ → List ℕ → ℕ → ℕ → List ℕ → ℕ → Refusal → Type 0
edit_call_causes T t claim c n new size =
    in_order (opening_causes T t c)
    (in_order (by NoSuchTap (3 * trace_word_batches (length t) < n))
    (in_order (by DestinationLength (size ≡ 4 → ⊥))
    (in_order (by_index ClaimWord (IsFirstBad claim))
    (in_order (by_index TraceWord (IsFirstBad t))
    (in_order (by_index TapWord (IsFirstBad new))
    (constraint_causes T t claim c))))))

-- ---- Unhash: 1, 2, 4, 6, 16; from another language 1, 2, 4, 8, 6, 16

-- Hash of no two taps ends in the state s
abbrev pub NoTwoTaps : List ℕ → List ℕ → Type 0
NoTwoTaps T s = (words : List ℕ) → length words ≡ 8 → EndsIn T words s → ⊥

abbrev pub unhash_causes : List ℕ → List ℕ → Refusal → Type 0
unhash_causes T s =
    in_order (table_causes T)
    (in_order (by_index TapWord (IsFirstBad s))
    (by NoPair (NoTwoTaps T s)))

abbrev pub unhash_call_causes : List ℕ → List ℕ → ℕ → Refusal → Type 0
unhash_call_causes T s size =
    in_order (table_causes T)
    (in_order (by DestinationLength (size ≡ 8 → ⊥))
    (in_order (by_index TapWord (IsFirstBad s))
    (by NoPair (NoTwoTaps T s))))

-- ---- Pack and the short edition's writer: 5, 8, 9, 6

-- most is the edition's most batches, n the length of its file
abbrev pub file_causes : ℕ → ℕ → List ℕ → List ℕ → ℕ → Refusal → Type 0
file_causes most n w claim size =
    in_order (by TapLength (NoTapLength most w))
    (in_order (by DestinationLength (size ≡ n → ⊥))
    (in_order (by_index ClaimWord (IsFirstBad claim))
    (by_index TapWord (IsFirstBad w))))

abbrev pub pack_causes : List ℕ → List ℕ → ℕ → Refusal → Type 0
pack_causes w claim size = file_causes most_file_batches (file_size (tap_word_batches (length w))) w claim size

abbrev pub pack_short_causes : List ℕ → List ℕ → ℕ → Refusal → Type 0
pack_short_causes w claim size = file_causes most_batches (short_file_size w claim) w claim size

-- ---- Unpack: 12 (below 4), word 0's 13 then 14, 12, 8, then each element's three kinds and its value

-- word 0
abbrev pub count_causes : ℕ → Refusal → Type 0
count_causes w =
    in_order (by (WrongKind 0) (kind_of w ≡ 0 → ⊥))
    (by (WrongValue 0) ((k : ℕ) → IsPermittedTo most_file_batches k → w ≡ count_word k → ⊥))

-- the element whose first word is word j
abbrev pub element_causes : List ℕ → ℕ → Refusal → Type 0
element_causes file j =
    in_order (by (WrongKind j) (kind_of (word_at file j) ≡ 1 → ⊥))
    (in_order (by (WrongKind (j + 1)) (kind_of (word_at file (j + 1)) ≡ 2 → ⊥))
    (in_order (by (WrongKind (j + 2)) (kind_of (word_at file (j + 2)) ≡ 3 → ⊥))
    (by (WrongValue j) (P ≤ element_at file j))))

-- of n elements the first that is faulty
abbrev pub elements_causes : List ℕ → ℕ → Refusal → Type 0
elements_causes file n r =
    (i : ℕ) × (i < n) × ((m : ℕ) → m < i → IsElement file (1 + 3 * m)) × element_causes file (1 + 3 * i) r

-- the taps of the file fit
abbrev pub TapsFit : List ℕ → ℕ → Type 0
TapsFit file size = size ≡ tap_words (batches_in file)

abbrev pub unpack_causes : List ℕ → Type 0 → Refusal → Type 0
unpack_causes file Room =
    in_order (by FileLength (length file < 4))
    (in_order (count_causes (word_at file 0))
    (in_order (by FileLength (length file ≡ file_size (batches_in file) → ⊥))
    (in_order (by DestinationLength (Room → ⊥))
    (elements_causes file (element_count (batches_in file))))))

-- ---- the word of a call says what these causes give, and acceptance where they give nothing
pub record SaidFor (causes : Refusal → Type 0) (code : ℕ) : Type 0 where
  pub refuses_exactly : (r : Refusal) → Says code (told r) ↔ causes r
  pub accepts_exactly : (number_in code ≡ 0) ↔ ((r : Refusal) → causes r → ⊥)

-- ---- each, for whatever is lent: what an operation's tests answer, which it answers too, and what its call's word says
pub record TurnedBack : Type 0 where
  pub table : (T : List ℕ) → DecidedBy (table_causes T) (table_test T)
  pub prepare : (raw old new : List ℕ) (a : Answer) → Prepares raw old a new
      → DecidedBy (prepare_causes raw (length old)) a
  pub prepare_called : (raw old new : List ℕ) (code : ℕ) → PrepareCall raw old code new
      → SaidFor (prepare_causes raw (length old)) code
  pub hash : (T words : List ℕ) → DecidedBy (hash_causes T words) (hash_test T words)
  pub hash_called : (T words output output' : List ℕ) (code : ℕ) → length words ≡ 8
      → HandsOver (hash_call T words (length output)) code output output'
      → SaidFor (hash_call_causes T words (length output)) code
  pub chain : (T w : List ℕ) → DecidedBy (chain_causes T w) (chain_test T w)
  pub chain_called : (T w output output' : List ℕ) (code : ℕ)
      → HandsOver (chain_call T w (length output)) code output output'
      → SaidFor (written_causes T w (length output ≡ 4)) code
  pub build : (T w : List ℕ) (size : ℕ) → DecidedBy (written_causes T w (RowsFit w size)) (build_test T w size)
  pub build_called : (T w rows rows' output output' : List ℕ) (code : ℕ) → BuildCall T w code rows rows' output output'
      → SaidFor (written_causes T w ((length output ≡ 4) × RowsFit w (length rows))) code
  pub check : (T t claim : List ℕ) (c : ℕ) → DecidedBy (check_causes T t claim c) (check_test T t claim c)
  pub check_called : (T t claim : List ℕ) (c code : ℕ) → length claim ≡ 4 → code ≡ tests_code (check_answer T t claim c)
      → SaidFor (check_causes T t claim c) code
  pub read_off : (T t claim : List ℕ) (c size : ℕ)
      → DecidedBy (read_off_causes T t claim c size) (read_off_test T t claim c size)
  pub read_off_called : (T t claim taps taps' : List ℕ) (c code : ℕ) → length claim ≡ 4
      → ReadOffCall T t claim c code taps taps' → SaidFor (read_off_causes T t claim c (length taps)) code
  pub edit : (T t claim : List ℕ) (c n : ℕ) (new : List ℕ)
      → DecidedBy (edit_causes T t claim c n new) (edit_test T t claim c n new)
  pub edit_called : (T t claim : List ℕ) (c n : ℕ) (new t' output output' : List ℕ) (code : ℕ) → length claim ≡ 4
      → length new ≡ 4 → EditCall T t claim c n new code t' output output'
      → SaidFor (edit_call_causes T t claim c n new (length output)) code
  pub unhash : (T s : List ℕ) → length s ≡ width → DecidedBy (unhash_causes T s) (unhash_test T s)
  pub unhash_called : (T s taps taps' : List ℕ) (code : ℕ) → length s ≡ width → UnhashCall T s code taps taps'
      → SaidFor (unhash_call_causes T s (length taps)) code
  pub pack : (w claim : List ℕ) (size : ℕ) → DecidedBy (pack_causes w claim size) (pack_test w claim size)
  pub pack_called : (w claim file file' : List ℕ) (code : ℕ) → length claim ≡ 4 → PackCall w claim file code file'
      → SaidFor (pack_causes w claim (length file)) code
  pub pack_short : (w claim : List ℕ) (size : ℕ)
      → DecidedBy (pack_short_causes w claim size) (pack_short_test w claim size)
  pub pack_short_called : (w claim file file' : List ℕ) (code : ℕ) → length claim ≡ 4
      → PackShortCall w claim file code file' → SaidFor (pack_short_causes w claim (length file)) code
  pub unpack : (file : List ℕ) (size : ℕ) → DecidedBy (unpack_causes file (TapsFit file size)) (unpack_test file size)
  pub unpack_called : (file taps taps' claim claim' : List ℕ) (code : ℕ) → UnpackCall file code taps taps' claim claim'
      → SaidFor (unpack_causes file ((length claim ≡ 4) × TapsFit file (length taps))) code
