-- Demand 3 (document 00; document 02, U6, for c): the checker is exact, the list of taps is unique, reading off finds
-- it, all 372 × k tests are walked, and a refusal names the first test that fails. The same of the calls.
-- Assumes nothing.
use Rattle.std.specs.Prelude.{◌≡◌, List, ◌⊎◌, ◌↔◌, ℕ, ◌*◌, ◌≤◌, length, Ok, Err}
use Rattle.field_words.specs.Words.{AllCanonical}
use Rattle.numbers.specs.Numbers.{tap_words, trace_words, IsPermitted}
use Rattle.refusals.specs.Refusals.{told, indexed}
use Rattle.refusals.specs.declared.Refusal.TheVariants.{Constraint}
use Rattle.table.specs.Table.{table_test}
use Rattle.trace.specs.Trace.{trace}
use Rattle.check_constraints.specs.Constraints.{tests}
use Rattle.check_constraints.specs.FirstFailing.{IsFirstFailing}
use Rattle.check_trace.specs.Answers.{check_answer}
use Rattle.trace_read_off.specs.Answers.{read_off_answer, read_off_leaves}
use Rattle.check_exact.specs.Exact.{IsListFor, IsWholeListFor}
use Rattle.call_results.specs.Code.{tests_code, Says}
use Rattle.call_answers.specs.Calls.{ReadOffCall}

-- what is demanded of one table T, trace t of k batches, claim and c; `Stands` is what it means that the trace stands
-- for a list
pub record Exact (T t claim : List ℕ) (c k : ℕ) (Stands : List ℕ → Type 0) : Type 0 where
  -- the checker accepts exactly when the trace stands for some list
  pub accepts_exactly : (check_answer T t claim c ≡ Ok (372 * k)) ↔ ((w : List ℕ) × Stands w)
  -- no other list of such taps then has that trace
  pub no_other : (w v : List ℕ) → Stands w → length v ≡ tap_words k → AllCanonical v → trace T v k ≡ t → v ≡ w
  -- reading off with the same c into 12k + 4 words accepts exactly when the checker does, and answers the same
  pub read_off_agrees : read_off_answer T t claim c (tap_words k) ≡ check_answer T t claim c
  -- and then writes that list, all 3k + 1 taps
  pub read_off_writes : (n : ℕ) (old : List ℕ) → length old ≡ tap_words k
      → read_off_answer T t claim c (length old) ≡ Ok n → Stands (read_off_leaves T t claim c old)
  -- an accepted trace reports 372 × k tests, the whole of the order
  pub whole_order : (n : ℕ) → check_answer T t claim c ≡ Ok n → (n ≡ 372 * k) × (n ≡ length (tests k c))
  -- every other trace is refused with 11, with row, constraint and place of the first test that fails in that order
  pub refused_by_11 : (check_answer T t claim c ≡ Ok (372 * k))
      ⊎ ((i : ℕ) × (q : ℕ) × (n : ℕ) × (check_answer T t claim c ≡ Err (Constraint (record { 0 = i }) q n))
      × IsFirstFailing T t claim (tests k c) i q n)
  -- ---- from another language
  -- the word of the checker's call says acceptance with 372 × k tests exactly when the trace stands for some list
  pub call_exactly : (code : ℕ) → code ≡ tests_code (check_answer T t claim c)
      → Says code (indexed 0 (372 * k)) ↔ ((w : List ℕ) × Stands w)
  -- that of the reader's call, lent 12k + 4 words, is the same, and then these words are that list
  pub call_writes : (code : ℕ) (taps taps' : List ℕ) → length taps ≡ tap_words k
      → ReadOffCall T t claim c code taps taps'
      → (code ≡ tests_code (check_answer T t claim c)) × (Says code (indexed 0 (372 * k)) → Stands taps')
  -- the word for every other trace says 11, with row, constraint and place of the first test that fails
  pub call_refused_by_11 : (code : ℕ) → code ≡ tests_code (check_answer T t claim c)
      → Says code (indexed 0 (372 * k))
      ⊎ ((i : ℕ) × (q : ℕ) × (n : ℕ) × Says code (told (Constraint (record { 0 = i }) q n))
      × IsFirstFailing T t claim (tests k c) i q n)

-- any accepted table, any permitted k, any trace of k batches and any claim, all of words below p
pub record Demand3 : Type 0 where
  -- for every c from 1 to k: some list of 3k + 1 taps of words below p has a section 3.1 trace equal to t in every
  -- cell, and its first 3c + 1 taps chain to the claim
  pub exact : (T t claim : List ℕ) (c k : ℕ) → table_test T ≡ Ok tt → IsPermitted k → 1 ≤ c → c ≤ k
      → length t ≡ trace_words k
      → AllCanonical t
      → length claim ≡ 4 → AllCanonical claim → Exact T t claim c k (IsListFor T t claim c k)
  -- the case c = k, in document 00's words: some list of 3k + 1 taps of words below p chains to the claim and has a
  -- section 3.1 trace equal to t in every cell
  pub exact_whole : (T t claim : List ℕ) (k : ℕ) → table_test T ≡ Ok tt → IsPermitted k
      → length t ≡ trace_words k
      → AllCanonical t
      → length claim ≡ 4 → AllCanonical claim → Exact T t claim k k (IsWholeListFor T t claim k)
