-- What Chain tests and answers (document 01, "Hash and chain", and "What is turned back" for the order of the
-- refusals). T is the lent table, w the lent list of taps.
-- Assumes nothing.
use Rattle.std.specs.Prelude.{List, ℕ, length, Result, Ok}
use Rattle.field_words.specs.Words.{first_bad, canonical_words}
use Rattle.numbers.specs.Numbers.{most_batches, is_tap_length, tap_word_batches}
use Rattle.refusals.specs.declared.Refusal.TheVariants.{TapLength, TapWord}
use Rattle.refusals.specs.Answers.{Answer, unless, after, with_value}
use Rattle.table.specs.Table.{table_test}
use Rattle.hash.specs.Hash.{chain}
use Rattle.refusals.specs.declared.Refusal.{Refusal}

-- Chain: 1, 2, 4, 5, 6
unfoldable pub chain_test : List ℕ → List ℕ → Answer
chain_test T w =
    after (table_test T)
    (unless (is_tap_length most_batches (length w)) TapLength
    (unless (canonical_words w) (TapWord (first_bad w))
    (Ok tt)))

-- it returns cells 0 to 3 of the last hash's final state
unfoldable pub chain_answer : List ℕ → List ℕ → Result (List ℕ) Refusal
chain_answer T w = with_value (chain_test T w) (chain T w (tap_word_batches (length w)))
