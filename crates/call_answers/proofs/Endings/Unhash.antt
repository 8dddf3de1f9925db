-- Unhash: the table's refusals, 6, 16; from another language 8 before 6. What is to be shown of 16 may use what was
-- tested before it.
-- Assumes nothing.
use mathlib.Core.Path.{◌≡◌}
use mathlib.Core.List.{List}
use Prim.Native.Nat.{ℕ, ◌<◌}
use lib.Dec.{eqb}
use lib.ListN.{length}
use Rattle.std.specs.Prelude.{Ok}
use Rattle.field_words.specs.Words.{AllCanonical, first_bad, canonical_words}
use Rattle.refusals.specs.declared.Refusal.{Refusal}
use Rattle.refusals.specs.declared.Refusal.TheVariants.{TapWord, DestinationLength, NoPair}
use Rattle.refusals.specs.Answers.{unless}
use Rattle.refusals.proofs.Laws.{AnswerEnds, unless_ends, after_ends}
use Rattle.table.specs.Table.{table_test}
use Rattle.hash_undo.specs.Unhash.{input_before, ends_in_zeros}
use Rattle.hash_undo.specs.Answers.{unhash_test}
use Rattle.call_answers.specs.Calls.{unhash_call_test}
use Rattle.call_answers.proofs.Endings.Table.{TableCauses, table_ends}
use Rattle.call_answers.proofs.Endings.Taps.{words_end}

module _ (Q : Refusal → Type 0) (causes : TableCauses Q) (T s : List ℕ) (q6 : (i : ℕ) → i < length s → Q (TapWord i))
    (q16 : table_test T ≡ Ok tt → AllCanonical s → Q NoPair) where
  cells_end : table_test T ≡ Ok tt
      → AnswerEnds Q (unless (canonical_words s) (TapWord (first_bad s))
      (unless (ends_in_zeros (input_before T s)) NoPair (Ok tt)))
  cells_end e =
      words_end Q s q6 _ λ c.
      unless_ends Q (ends_in_zeros (input_before T s)) NoPair (Ok tt) (λ z. q16 e c) λ z. tt

  pub unhash_ends : AnswerEnds Q (unhash_test T s)
  unfolding unhash_test
  unhash_ends = after_ends Q (table_test T) _ (table_ends Q causes T) cells_end

  pub unhash_call_ends : (size : ℕ) → Q DestinationLength → AnswerEnds Q (unhash_call_test T s size)
  unfolding unhash_call_test
  unhash_call_ends size q8 =
      after_ends Q (table_test T) _ (table_ends Q causes T) λ e.
      unless_ends Q (eqb size 8) DestinationLength _ (λ f. q8) λ f. cells_end e
