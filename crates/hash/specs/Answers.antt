-- What Hash tests and answers (document 01, "Hash and chain", and "What is turned back" for the order of the refusals;
-- document 02, U3, for its answer). T is the lent table, words the eight words of two taps.
-- Assumes nothing.
use Rattle.std.specs.Prelude.{List, ℕ, take, drop, Result, Ok}
use Rattle.field_words.specs.Words.{first_bad, canonical_words}
use Rattle.refusals.specs.declared.Refusal.TheVariants.{TapWord}
use Rattle.refusals.specs.Answers.{Answer, unless, after, with_value}
use Rattle.table.specs.Table.{table_test}
use Rattle.hash.specs.Hash.{final_state, input}
use Rattle.refusals.specs.declared.Refusal.{Refusal}

-- Hash: 1, 2, 4, 6
unfoldable pub hash_test : List ℕ → List ℕ → Answer
hash_test T words =
    after (table_test T)
    (unless (canonical_words words) (TapWord (first_bad words))
    (Ok tt))

-- it returns the whole final state
unfoldable pub hash_answer : List ℕ → List ℕ → Result (List ℕ) Refusal
hash_answer T words = with_value (hash_test T words) (final_state T (input (take 4 words) (drop 4 words)))
