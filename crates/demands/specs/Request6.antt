-- Request 6 (document 02, U6): claims that end before the rows do. A claim is lent with c, and constraints 49 to 52
-- stand at row 31 of batch c − 1. Which traces are accepted then, and what is read off, is demand 3; what a built trace
-- reads off to, demand 2; what an edit does and returns, request 1; the count of refusal 11, request 4: each for every
-- c. Here: the order of the tests, 17, and what moving the claim along a trace does.
-- Assumes nothing.
use Rattle.std.specs.Prelude.{◌≡◌, ◌⊎◌, ◌↔◌, true, ℕ, ◌+◌, ◌*◌, ◌-◌, ◌≤◌, ◌<◌, eqb, length, take, Ok, Err}
use mathlib.Core.List.{List, [], ◌++◌, Memᴰ}
use Rattle.lists.specs.Lists.{choose, cell}
use Rattle.field_words.specs.Words.{AllCanonical}
use Rattle.numbers.specs.Numbers.{batch_rows, trace_row_count, trace_words, IsPermitted, trace_word_batches, within}
use Rattle.refusals.specs.Refusals.{told}
use Rattle.refusals.specs.declared.Refusal.TheVariants.{Constraint, ClaimBatches}
use Rattle.table.specs.Table.{table_test}
use Rattle.trace.specs.Trace.{row}
use Rattle.check_constraints.specs.Constraints.{Test, applies, row_tests, tests}
use Rattle.check_constraints.specs.FirstFailing.{place_of, four_tests}
use Rattle.check_trace.specs.Answers.{check_answer}
use Rattle.trace_read_off.specs.Answers.{read_off_answer}
use Rattle.trace_edit.specs.Answers.{edit_answer}
use Rattle.call_results.specs.Code.{Says, tests_code}
use Rattle.call_answers.specs.Calls.{ReadOffCall, EditCall}

-- row 31 of batch b
abbrev pub row31 : ℕ → ℕ
row31 b = batch_rows * b + 31

-- the place of constraint 49: behind 372c tests where another batch follows, else the fourth from the end
abbrev pub claim_place : ℕ → ℕ → ℕ
claim_place k c = choose (eqb c k) (372 * k - 3) (372 * c + 1)

-- an accepted table, a trace of k batches, k permitted, and a c that is 0 or above k
pub record OutOfRange (T t : List ℕ) (c : ℕ) : Type 0 where
  pub table : table_test T ≡ Ok tt
  pub k : ℕ
  pub permitted : IsPermitted k
  pub size : length t ≡ trace_words k
  pub out : (c ≡ 0) ⊎ (k < c)

pub record Request6 : Type 0 where
  -- ---- the order of the tests, for a trace of k batches and a claim about c of them
  -- it has each constraint at each row where it applies, and nothing else; 372 × k for every c from 1 to k
  pub listed : (k c : ℕ) (x : Test)
      → Memᴰ x (tests k c) ↔ ((x.at < trace_row_count k) × (applies k c x.at x.number ≡ true))
  pub total : (k c : ℕ) → 1 ≤ c → c ≤ k → length (tests k c) ≡ 372 * k
  -- at row 31 of batch b stand 45 to 48, where it is not the last, and then 49 to 52, where b is c − 1: eight tests
  -- there where c < k, and the last row then has none
  pub rows_31 : (k c b : ℕ) → row_tests k c (row31 b) 1 52
      ≡ choose (eqb (b + 1) k) [] (four_tests (row31 b) 45) ++ choose (eqb (b + 1) c) (four_tests (row31 b) 49) []
  -- 49 to 52 stand at no other row, and at no row but 31 do the tests depend on c
  pub claim_only : (k c i q : ℕ) → 49 ≤ q → applies k c i q ≡ true → i ≡ row31 (c - 1)
  pub other_rows : (k c d i q : ℕ) → (within i ≡ 31 → ⊥) → applies k c i q ≡ applies k d i q
  -- the places of 49 to 52
  pub claim_places : (k c j : ℕ) → 1 ≤ c → c ≤ k → j < 4 → place_of k c (row31 (c - 1)) (49 + j) ≡ claim_place k c + j
  -- ---- 17 exactly where c is 0 or above k, after 1, 2, 4 and 7, whatever else is lent: claim, destination, tap
  pub check_17 : (T t claim : List ℕ) (c : ℕ) → (check_answer T t claim c ≡ Err ClaimBatches) ↔ OutOfRange T t c
  pub read_off_17 : (T t claim : List ℕ) (c size : ℕ)
      → (read_off_answer T t claim c size ≡ Err ClaimBatches) ↔ OutOfRange T t c
  pub edit_17 : (T t claim : List ℕ) (c n : ℕ) (new : List ℕ)
      → (edit_answer T t claim c n new ≡ Err ClaimBatches) ↔ OutOfRange T t c
  -- and from another language the returned word says so, for Edit whatever room there is for its output
  pub check_call_17 : (T t claim : List ℕ) (c code : ℕ) → length claim ≡ 4 → code ≡ tests_code (check_answer T t claim c)
      → Says code (told ClaimBatches) ↔ OutOfRange T t c
  pub read_off_call_17 : (T t claim taps taps' : List ℕ) (c code : ℕ) → length claim ≡ 4
      → ReadOffCall T t claim c code taps taps' → Says code (told ClaimBatches) ↔ OutOfRange T t c
  pub edit_call_17 : (T t claim : List ℕ) (c n : ℕ) (new t' output output' : List ℕ) (code : ℕ) → length claim ≡ 4
      → length new ≡ 4 → EditCall T t claim c n new code t' output output'
      → Says code (told ClaimBatches) ↔ OutOfRange T t c
  -- ---- the claim along an accepted trace
  -- it is what row 31 of batch c − 1 begins with, so that no other claim is accepted with that c
  pub shows_claim : (T t claim : List ℕ) (c n : ℕ) → length claim ≡ 4 → check_answer T t claim c ≡ Ok n
      → take 4 (row t (row31 (c - 1))) ≡ claim
  -- and another claim of words below p, unlike it in word j and in none before, is refused with 11: that row,
  -- constraint 49 + j, and its place
  pub other_claim : (T t claim other : List ℕ) (c j n : ℕ) → check_answer T t claim c ≡ Ok n → AllCanonical other
      → j < 4 → (cell other j ≡ cell claim j → ⊥) → ((m : ℕ) → m < j → cell other m ≡ cell claim m)
      → check_answer T t other c
      ≡ Err (Constraint (record { 0 = row31 (c - 1) }) (49 + j) (claim_place (trace_word_batches (length t)) c + j))
  -- and with every other d from 1 to k the trace is accepted under what row 31 of batch d − 1 begins with
  pub moves : (T t claim : List ℕ) (c d n : ℕ) → length claim ≡ 4 → check_answer T t claim c ≡ Ok n → 1 ≤ d
      → d ≤ trace_word_batches (length t)
      → check_answer T t (take 4 (row t (row31 (d - 1)))) d ≡ Ok n
