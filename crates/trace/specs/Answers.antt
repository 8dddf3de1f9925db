-- What Build tests, answers, and leaves in the destination (document 01, "The 52 constraints", and "What is turned
-- back" for the order of the refusals). T is the lent table, w the lent list of taps, size the length of the
-- destination.
-- Assumes nothing.
use Rattle.std.specs.Prelude.{List, ℕ, eqb, length, Result, Ok}
use Rattle.field_words.specs.Words.{first_bad, canonical_words}
use Rattle.numbers.specs.Numbers.{trace_words, most_batches, is_tap_length, tap_word_batches}
use Rattle.refusals.specs.declared.Refusal.TheVariants.{TapLength, TapWord, DestinationLength}
use Rattle.refusals.specs.Answers.{Answer, unless, after, with_value, leaves}
use Rattle.table.specs.Table.{table_test}
use Rattle.hash.specs.Hash.{chain}
use Rattle.trace.specs.Trace.{trace}
use Rattle.refusals.specs.declared.Refusal.{Refusal}

-- Build: 1, 2, 4, 5, 8, 6
unfoldable pub build_test : List ℕ → List ℕ → ℕ → Answer
build_test T w size =
    after (table_test T)
    (unless (is_tap_length most_batches (length w)) TapLength
    (unless (eqb size (trace_words (tap_word_batches (length w)))) DestinationLength
    (unless (canonical_words w) (TapWord (first_bad w))
    (Ok tt))))

-- it returns the chain's output
unfoldable pub build_answer : List ℕ → List ℕ → ℕ → Result (List ℕ) Refusal
build_answer T w size = with_value (build_test T w size) (chain T w (tap_word_batches (length w)))

-- the trace of the list, or what was there
unfoldable pub build_leaves : List ℕ → List ℕ → List ℕ → List ℕ
build_leaves T w old = leaves (build_test T w (length old)) (trace T w (tap_word_batches (length w))) old
