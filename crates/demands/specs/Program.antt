-- The program (document 01, "The board file"): it reads a raw table and then a board file of at most 16 batches,
-- prepares, unpacks, builds, checks against the claim, and prints one line. `Clears` is the contract of
-- `clear_answer::clear`, `text_of` what `clear_line::text` writes; what an acceptance and each refusal mean stands
-- beside `Clears`.
-- Assumes nothing.
use Rattle.std.specs.Prelude.{◌≡◌, List, [], ◌∷◌, ◌++◌, ◌↔◌, ℕ, ◌+◌, ◌*◌, ◌-◌, ◌≤◌, ◌<◌, length, set, Ok, Err}
use Rattle.lists.specs.Lists.{each}
use Rattle.numbers.specs.Numbers.{trace_row_count, trace_words, tap_word_batches}
use Rattle.refusals.specs.declared.Refusal.{Refusal}
use Rattle.refusals.specs.declared.Refusal.TheVariants.{TableLength, WrongKind, Constraint}
use Rattle.table.specs.Table.{Prepares}
use Rattle.trace.specs.Answers.{build_leaves}
use Rattle.check_trace.specs.Answers.{check_answer}
use Rattle.board.specs.Board.{unpack_answer, unpack_leaves}
use Rattle.clear_answer.specs.declared.Unclear.TheVariants.{Refused, TooLong}
use Rattle.clear_answer.specs.Clearing.{Outcome, raw_in, file_in, reported, unprepared, Clears, IsJudged, IsCleared}
use Rattle.clear_answer.specs.Clearing.{IsUnlike, InputFault}
use Rattle.clear_line.specs.Line.{ascii, text_of}
use Rattle.known_days.specs.Days.{raw_z}
use Rattle.known_days.specs.Files.{zero_file}
use Rattle.demands.specs.Demand1.{OneOf}

-- a word of a raw table, if it is below 2^8: 8 bytes, low byte first
abbrev pub raw_bytes : ℕ → List ℕ
raw_bytes w = w ∷ 0x00 ∷ 0x00 ∷ 0x00 ∷ 0x00 ∷ 0x00 ∷ 0x00 ∷ 0x00 ∷ []

-- the raw table Z of the known days, and then a file
unfoldable pub with_z : List ℕ → List ℕ
with_z file = each raw_bytes raw_z ++ file

pub record Program : Type 0 where
  -- ---- every input has one answer, and no other
  pub answers : (input : List ℕ) → (o : Outcome) × Clears input o
  pub answers_once : (input : List ℕ) (a b : Outcome) → Clears input a → Clears input b → a ≡ b
  -- ---- accepted, with k and 372 × k tests: exactly where table and file are accepted and, under that table, the file's
  -- taps chain to its claim
  pub accepts_exactly : (input : List ℕ) (o : Outcome) (k tests : ℕ) → Clears input o
      → (o ≡ Ok (record { batches = k; tests = tests })) ↔ (IsCleared input k × (tests ≡ 372 * k))
  -- k at most 16
  pub at_most_16 : (input T : List ℕ) (k : ℕ) → IsJudged input T k → k ≤ 16
  -- it prepares, unpacks, builds, checks: where Prepare writes T and Unpack accepts the file with the claim d, the answer
  -- is Check's, with c = k, on the trace that Build leaves in `rows` of the taps that Unpack leaves in `room`
  pub checks_built : (input T room rows d : List ℕ) (o : Outcome) → Clears input o
      → 3168 ≤ length input → length input ≤ 5572 → Prepares (raw_in input) unprepared (Ok tt) T
      → unpack_answer (file_in input) (length room) ≡ Ok d
      → let taps = unpack_leaves (file_in input) room in
      let k = tap_word_batches (length taps) in
      length rows ≡ trace_words k → o ≡ reported k (check_answer T (build_leaves T taps rows) d k)
  -- ---- refused: exactly for the fault that comes first, by one of seven numbers
  pub refuses_exactly : (input : List ℕ) (o : Outcome) (r : Refusal) → Clears input o
      → (o ≡ Err (Refused r)) ↔ InputFault input r
  pub refuses_only : (input : List ℕ) (r : Refusal) → Clears input (Err (Refused r))
      → OneOf (1 ∷ 2 ∷ 3 ∷ 12 ∷ 13 ∷ 14 ∷ 11 ∷ []) r
  -- 1 exactly under 3168 bytes
  pub one_exactly : (input : List ℕ) (o : Outcome) → Clears input o
      → (o ≡ Err (Refused TableLength)) ↔ (length input < 3168)
  -- 11 exactly where the claim is another's: with the last row and the constraint, 49 to 52, of the first word of the
  -- output that is unlike it
  pub unlike_refused : (input : List ℕ) (o : Outcome) (i q n : ℕ) → Clears input o
      → (o ≡ Err (Refused (Constraint (record { 0 = i }) q n)))
      ↔ ((k : ℕ) × (j : ℕ) × IsUnlike input k j
      × (i ≡ trace_row_count k - 1) × (q ≡ 49 + j) × (n ≡ 372 * k - 3 + j))
  -- ---- too long exactly over 5572 bytes
  pub long_exactly : (input : List ℕ) (o : Outcome) → Clears input o → (o ≡ Err TooLong) ↔ (5572 < length input)
  -- ---- the line tells the answer: two answers, to whatever inputs, that are printed alike are one. (The count of 11,
  -- which is not printed, follows from row and constraint)
  pub line_tells : (input other : List ℕ) (a b : Outcome) → Clears input a → Clears other b → text_of a ≡ text_of b
      → a ≡ b
  -- and its bytes: `accepted`, k, tests; `refused`, number, then the place if there is one, row and constraint for 11;
  -- fields one space apart, in decimal
  pub accepted_line : text_of (Ok (record { batches = 1; tests = 372 })) ≡ ascii "accepted 1 372\n"
  pub alone_line : text_of (Err (Refused TableLength)) ≡ ascii "refused 1\n"
  pub index_line : text_of (Err (Refused (WrongKind 5))) ≡ ascii "refused 13 5\n"
  pub refused_line : (tests : ℕ)
      → text_of (Err (Refused (Constraint (record { 0 = 31 }) 49 tests))) ≡ ascii "refused 11 31 49\n"
  pub long_line : text_of (Err TooLong) ≡ ascii "too long\n"
  -- ---- known days: Z and the 244-byte file of zeros; the same with the claim (1,0,0,0), whose first word has its low
  -- 30 bits from byte 12 on
  pub zero_day : Clears (with_z zero_file) (Ok (record { batches = 1; tests = 372 }))
  pub other_day : Clears (with_z (set zero_file 12 1)) (Err (Refused (Constraint (record { 0 = 31 }) 49 369)))
