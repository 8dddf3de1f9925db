-- What Unhash tests and answers (document 02, U5). T is the lent table, s the twelve cells of a state.
-- Assumes nothing.
use Rattle.std.specs.Prelude.{List, ℕ, Result, Ok}
use Rattle.field_words.specs.Words.{first_bad, canonical_words}
use Rattle.refusals.specs.declared.Refusal.TheVariants.{TapWord, NoPair}
use Rattle.refusals.specs.Answers.{Answer, unless, after, with_value}
use Rattle.table.specs.Table.{table_test}
use Rattle.hash_undo.specs.Unhash.{input_before, taps_before, ends_in_zeros}
use Rattle.refusals.specs.declared.Refusal.{Refusal}

-- Unhash: 1, 2, 4, 6, 16; cells are tested as tap words
unfoldable pub unhash_test : List ℕ → List ℕ → Answer
unhash_test T s =
    after (table_test T)
    (unless (canonical_words s) (TapWord (first_bad s))
    (unless (ends_in_zeros (input_before T s)) NoPair
    (Ok tt)))

-- it returns the two taps
unfoldable pub unhash_answer : List ℕ → List ℕ → Result (List ℕ) Refusal
unhash_answer T s = with_value (unhash_test T s) (taps_before T s)
