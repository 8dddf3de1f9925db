-- What the program answers, whatever bytes stand on its standard input (document 01, "The board file").
-- Assumes nothing.
use Rattle.std.specs.Prelude.{◌≡◌, List, ℕ, ◌+◌, ◌*◌, ◌-◌, ◌^◌, ◌≤◌, ◌<◌, length, drop, replicate, Result, Ok, Err}
use Rattle.lists.specs.Lists.{cell, tab, sum}
use Rattle.field_words.specs.Words.{AllCanonical}
use Rattle.numbers.specs.Numbers.{trace_row_count, tap_words, IsPermitted, tap_word_batches}
use Rattle.refusals.specs.declared.Refusal.{Refusal}
use Rattle.refusals.specs.declared.Refusal.TheVariants.{TableLength, Constraint}
use Rattle.table.specs.Table.{raw_words, table_words, Prepares}
use Rattle.hash.specs.Hash.{chain}
use Rattle.trace.specs.Trace.{trace}
use Rattle.check_constraints.specs.Constraints.{tests, constraint_test}
use Rattle.board.specs.Board.{file_size, batches_in, taps_in, claim_in, unpack_test, unpack_answer, IsBoard}
use Rattle.clear_answer.specs.declared.Report.{Report}
use Rattle.clear_answer.specs.declared.Unclear.{Unclear}
use Rattle.clear_answer.specs.declared.Unclear.TheVariants.{Refused, TooLong}
use Rattle.refusals.specs.Answers.{after, with_value}

-- ---- the input: a raw table, and then a board file

-- the bytes of a raw table, 8 a word
abbrev pub table_bytes : ℕ
table_bytes = 8 * raw_words

-- the most bytes: those, and a file of 16 batches
abbrev pub longest : ℕ
longest = table_bytes + file_size 16

-- word j of the table: 8 bytes, low byte first
unfoldable pub raw_word : List ℕ → ℕ → ℕ
raw_word input j = sum 8 (λ b. cell input (8 * j + b) * 2 ^ (8 * b))

-- the raw table, with which it begins
unfoldable pub raw_in : List ℕ → List ℕ
raw_in input = tab raw_words (raw_word input)

-- the file: what is left
unfoldable pub file_in : List ℕ → List ℕ
file_in input = drop table_bytes input

-- ---- it prepares, unpacks, builds, checks against the claim

-- the trace of the taps w, checked against the claim, which in a board file is about all k batches: k and the number of
-- all tests, or the refusal
unfoldable pub checked_taps : List ℕ → List ℕ → List ℕ → ℕ → Result Report Refusal
checked_taps T w claim k =
    with_value (constraint_test T (trace T w k) claim k k) (record { batches = k; tests = length (tests k k) })

-- with the table prepared: the file's taps, and the file's claim
unfoldable pub cleared : List ℕ → List ℕ → Result Report Refusal
cleared T file =
    after (unpack_test file (tap_words (batches_in file)))
    (checked_taps T (taps_in file) (claim_in file) (batches_in file))

-- where Prepare writes
abbrev pub unprepared : List ℕ
unprepared = replicate table_words 0

-- the program's answer: what is told of a board that clears, or why it does not
abbrev pub Outcome : Type 0
Outcome = Result Report Unclear

-- the refusal of a file is why the input does not clear
abbrev pub outcome_of : Result Report Refusal → Outcome
outcome_of (Ok report) = Ok report
outcome_of (Err r) = Err (Refused r)

-- what Check's answer for k batches comes to
abbrev pub reported : ℕ → Result ℕ Refusal → Outcome
reported k (Ok tests) = Ok (record { batches = k; tests = tests })
reported k (Err r) = Err (Refused r)

-- under 3168 bytes and over 5572 nothing else is looked at; the table's refusal comes before the file's
pub data Clears (input : List ℕ) : Outcome → Type 0 where
  short : length input < table_bytes → Clears input (Err (Refused TableLength))
  long : longest < length input → Clears input (Err TooLong)
  turned_back : table_bytes ≤ length input → length input ≤ longest → (r : Refusal)
      → Prepares (raw_in input) unprepared (Err r) unprepared → Clears input (Err (Refused r))
  judged : table_bytes ≤ length input → length input ≤ longest → (T : List ℕ)
      → Prepares (raw_in input) unprepared (Ok tt) T → Clears input (outcome_of (cleared T (file_in input)))

-- ---- what the answers mean

-- table and file are accepted
pub record IsJudged (input T : List ℕ) (k : ℕ) : Type 0 where
  pub low : table_bytes ≤ length input
  pub high : length input ≤ longest
  pub prepared : Prepares (raw_in input) unprepared (Ok tt) T
  pub board : IsBoard (file_in input) k

-- and under that table the file's taps chain to its claim
pub record IsCleared (input : List ℕ) (k : ℕ) : Type 0 where
  pub table : List ℕ
  pub accepted : IsJudged input table k
  pub chains : chain table (taps_in (file_in input)) k ≡ claim_in (file_in input)

-- or come to another output: word j is the first that is unlike the claim's
pub record IsUnlike (input : List ℕ) (k j : ℕ) : Type 0 where
  pub table : List ℕ
  pub accepted : IsJudged input table k
  pub word : j < 4
  pub other : cell (chain table (taps_in (file_in input)) k) j ≡ cell (claim_in (file_in input)) j → ⊥
  pub before : (m : ℕ) → m < j → cell (chain table (taps_in (file_in input)) k) m ≡ cell (claim_in (file_in input)) m

-- the fault that r is answered for, in the order of the stages
pub data InputFault (input : List ℕ) (r : Refusal) : Type 0 where
  -- no whole table: 1
  no_table : length input < table_bytes → r ≡ TableLength → InputFault input r
  -- what Prepare refuses the table for
  table_fault : table_bytes ≤ length input → length input ≤ longest
      → Prepares (raw_in input) unprepared (Err r) unprepared → InputFault input r
  -- the table being prepared, what Unpack refuses the file for, with room for its taps
  file_fault : table_bytes ≤ length input → length input ≤ longest → (T : List ℕ)
      → Prepares (raw_in input) unprepared (Ok tt) T
      → unpack_answer (file_in input) (tap_words (batches_in (file_in input))) ≡ Err r → InputFault input r
  -- both being accepted, a claim that is another's: 11 with the last row, the constraint of the first word that is
  -- unlike, and its place among the last four tests (document 02, U4)
  other_claim : (k j : ℕ) → IsUnlike input k j
      → r ≡ Constraint (record { 0 = trace_row_count k - 1 }) (49 + j) (372 * k - 3 + j) → InputFault input r

-- ---- what the stages hand on: the tap words of an accepted file of k batches, k at most 16
pub record Taps (w : List ℕ) : Type 0 where
  pub size : length w ≡ tap_words (tap_word_batches (length w))
  pub permitted : IsPermitted (tap_word_batches (length w))
  pub few : length w ≤ 196
  pub canonical : AllCanonical w
