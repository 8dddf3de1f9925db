-- What Check tests and answers (document 01, "The 52 constraints", "What is turned back"; document 02, U6).
-- T is the lent table, t the lent trace, c the number of batches that is lent with the claim.
-- Assumes nothing.
use Rattle.std.specs.Prelude.{List, ℕ, length, Result, Ok}
use Rattle.field_words.specs.Words.{first_bad, canonical_words}
use Rattle.numbers.specs.Numbers.{most_batches, is_trace_length, trace_word_batches}
use Rattle.refusals.specs.declared.Refusal.TheVariants.{TraceLength, ClaimWord, TraceWord, ClaimBatches}
use Rattle.refusals.specs.Answers.{Answer, unless, after, with_value}
use Rattle.table.specs.Table.{table_test}
use Rattle.check_constraints.specs.Constraints.{between, tests, constraint_test}
use Rattle.refusals.specs.declared.Refusal.{Refusal}

-- 1, 2, 4; 7; 17: what is tested first of a lent trace and a claim. c is to be from 1 to k
unfoldable pub opening_test : List ℕ → List ℕ → ℕ → Answer
opening_test T t c =
    after (table_test T)
    (unless (is_trace_length most_batches (length t)) TraceLength
    (unless (between 1 (trace_word_batches (length t)) c) ClaimBatches (Ok tt)))

-- 9; 10; 11
unfoldable pub trace_test : List ℕ → List ℕ → List ℕ → ℕ → ℕ → Answer
trace_test T t claim c k =
    unless (canonical_words claim) (ClaimWord (first_bad claim))
    (unless (canonical_words t) (TraceWord (first_bad t))
    (constraint_test T t claim c k))

-- Check: 1, 2, 4; 7; 17; 9; 10; 11
unfoldable pub check_test : List ℕ → List ℕ → List ℕ → ℕ → Answer
check_test T t claim c = after (opening_test T t c) (trace_test T t claim c (trace_word_batches (length t)))

-- the number reported with an accepted trace is that of the tests walked, which is all of them
unfoldable pub check_answer : List ℕ → List ℕ → List ℕ → ℕ → Result ℕ Refusal
check_answer T t claim c = with_value (check_test T t claim c) (length (tests (trace_word_batches (length t)) c))
