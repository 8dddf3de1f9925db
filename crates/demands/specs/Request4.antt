-- Request 4 (document 02, U4, and U6 for c): exact test counts on refusal. The count in refusal 11 is the failing
-- test's place in document 01's order, as U6 leaves it.
-- Assumes nothing.
use Rattle.std.specs.Prelude.{◌≡◌, List, ◌↔◌, ℕ, ◌*◌, ◌≤◌, length, Ok, Err}
use Rattle.field_words.specs.Words.{AllCanonical}
use Rattle.numbers.specs.Numbers.{tap_words, trace_words, IsPermitted, trace_word_batches}
use Rattle.refusals.specs.Refusals.{told}
use Rattle.refusals.specs.declared.Refusal.{Refusal}
use Rattle.refusals.specs.declared.Refusal.TheVariants.{Constraint}
use Rattle.table.specs.Table.{table_test}
use Rattle.check_constraints.specs.Constraints.{tests}
use Rattle.check_constraints.specs.FirstFailing.{IsFirstFailing, place_of}
use Rattle.check_trace.specs.Answers.{check_answer}
use Rattle.trace_read_off.specs.Answers.{read_off_answer}
use Rattle.trace_edit.specs.Answers.{edit_answer}
use Rattle.call_results.specs.Code.{Says, tests_code}
use Rattle.call_answers.specs.Calls.{ReadOffCall, EditCall}

-- refusal 11 with row i, constraint q and the count n
abbrev pub eleven : ℕ → ℕ → ℕ → Refusal
eleven i q n = Constraint (record { 0 = i }) q n

-- an accepted table, a permitted k, which the trace's length tells, c from 1 to k, a trace of k batches and a claim,
-- both of words below p: nothing is refused before 11. (That the claim has four words need not be asked.)
pub record Reached (T t claim : List ℕ) (c k : ℕ) : Type 0 where
  pub table : table_test T ≡ Ok tt
  pub permitted : IsPermitted k
  pub low : 1 ≤ c
  pub high : c ≤ k
  pub size : length t ≡ trace_words k
  pub canonical : AllCanonical t
  pub claim_canonical : AllCanonical claim

-- the rule of U4, for whoever refuses a trace of k batches with row i, constraint q and the count n
pub record Counted (T t claim : List ℕ) (c k i q n : ℕ) : Type 0 where
  -- that test is the first of the order that fails: n − 1 tests stand before it, and all of them hold
  pub first_failing : IsFirstFailing T t claim (tests k c) i q n
  -- n is its place: the tests of all rows before its own, and those of its row up to its own number
  pub place_is : n ≡ place_of k c i q

pub record Request4 : Type 0 where
  -- Check refuses with 11 exactly where the tests are reached, and by this rule
  pub check_counts : (T t claim : List ℕ) (c i q n : ℕ)
      → (check_answer T t claim c ≡ Err (eleven i q n))
      ↔ ((k : ℕ) × Reached T t claim c k × Counted T t claim c k i q n)
  -- Read-off and Edit refuse with 11 exactly where Check does and nothing else that they test is refused, and with the
  -- same row, constraint and count
  pub read_off_alike : (T t claim : List ℕ) (c size i q n : ℕ)
      → (read_off_answer T t claim c size ≡ Err (eleven i q n))
      ↔ ((check_answer T t claim c ≡ Err (eleven i q n)) × (size ≡ tap_words (trace_word_batches (length t))))
  pub edit_alike : (T t claim : List ℕ) (c m : ℕ) (new : List ℕ) (i q n : ℕ)
      → (edit_answer T t claim c m new ≡ Err (eleven i q n))
      ↔ ((check_answer T t claim c ≡ Err (eleven i q n))
      × (m ≤ 3 * trace_word_batches (length t)) × AllCanonical new)
  -- from another language: the returned word says 11 with this row, constraint and count exactly where the operation
  -- refuses so, which for Edit asks for room for the four words of the output
  pub check_called : (T t claim : List ℕ) (c code i q n : ℕ) → length claim ≡ 4
      → code ≡ tests_code (check_answer T t claim c)
      → Says code (told (eleven i q n)) ↔ (check_answer T t claim c ≡ Err (eleven i q n))
  pub read_off_called : (T t claim taps taps' : List ℕ) (c code i q n : ℕ) → length claim ≡ 4
      → ReadOffCall T t claim c code taps taps'
      → Says code (told (eleven i q n)) ↔ (read_off_answer T t claim c (length taps) ≡ Err (eleven i q n))
  pub edit_called : (T t claim : List ℕ) (c m : ℕ) (new t' output output' : List ℕ) (code i q n : ℕ) → length claim ≡ 4
      → length new ≡ 4 → EditCall T t claim c m new code t' output output'
      → Says code (told (eleven i q n))
      ↔ ((edit_answer T t claim c m new ≡ Err (eleven i q n)) × (length output ≡ 4))
  -- the count is a function of table, trace, claim and c: two makers that keep the rule name one test with one count
  pub one_count : (T t claim : List ℕ) (c k i q n l j r m : ℕ) → Reached T t claim c k → Counted T t claim c k i q n
      → Reached T t claim c l → Counted T t claim c l j r m → (i ≡ j) × (q ≡ r) × (n ≡ m)
