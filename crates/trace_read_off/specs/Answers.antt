-- What Read-off tests and answers, and what it leaves (document 01, "The 52 constraints", "What is turned back";
-- document 02, U6). T is the lent table, t the lent trace, c the number of batches that is lent with the claim, size
-- the length of the destination.
-- Assumes nothing.
use Rattle.std.specs.Prelude.{List, ℕ, eqb, length, Result}
use Rattle.numbers.specs.Numbers.{tap_words, trace_word_batches}
use Rattle.refusals.specs.declared.Refusal.TheVariants.{DestinationLength}
use Rattle.refusals.specs.Answers.{Answer, unless, after, with_value, leaves}
use Rattle.check_constraints.specs.Constraints.{tests}
use Rattle.check_constraints.specs.ReadOff.{read_taps}
use Rattle.check_trace.specs.Answers.{opening_test, trace_test}
use Rattle.refusals.specs.declared.Refusal.{Refusal}

-- 1, 2, 4; 7; 17; 8; 9; 10; 11
unfoldable pub read_off_test : List ℕ → List ℕ → List ℕ → ℕ → ℕ → Answer
read_off_test T t claim c size =
    after (opening_test T t c)
    (unless (eqb size (tap_words (trace_word_batches (length t)))) DestinationLength
    (trace_test T t claim c (trace_word_batches (length t))))

-- the number reported is Check's
unfoldable pub read_off_answer : List ℕ → List ℕ → List ℕ → ℕ → ℕ → Result ℕ Refusal
read_off_answer T t claim c size =
    with_value (read_off_test T t claim c size) (length (tests (trace_word_batches (length t)) c))

-- the 12k + 4 words of the taps that the trace holds, or what was there
unfoldable pub read_off_leaves : List ℕ → List ℕ → List ℕ → ℕ → List ℕ → List ℕ
read_off_leaves T t claim c old =
    leaves (read_off_test T t claim c (length old)) (read_taps T t (trace_word_batches (length t))) old
