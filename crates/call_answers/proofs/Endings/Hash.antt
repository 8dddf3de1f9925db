-- Hash: the table's refusals, 6; from another language 8 before 6.
-- Assumes nothing.
use mathlib.Core.List.{List}
use Prim.Native.Nat.{ℕ, ◌<◌}
use lib.Dec.{eqb}
use lib.ListN.{length}
use Rattle.std.specs.Prelude.{Ok}
use Rattle.numbers.specs.Numbers.{width}
use Rattle.refusals.specs.declared.Refusal.{Refusal}
use Rattle.refusals.specs.declared.Refusal.TheVariants.{TapWord, DestinationLength}
use Rattle.refusals.proofs.Laws.{AnswerEnds, unless_ends, after_ends}
use Rattle.table.specs.Table.{table_test}
use Rattle.hash.specs.Answers.{hash_test}
use Rattle.call_answers.specs.Calls.{hash_call_test}
use Rattle.call_answers.proofs.Endings.Table.{TableCauses, table_ends}
use Rattle.call_answers.proofs.Endings.Taps.{words_end}

module _ (Q : Refusal → Type 0) (causes : TableCauses Q) (T words : List ℕ)
    (q6 : (i : ℕ) → i < length words → Q (TapWord i)) where
  pub hash_ends : AnswerEnds Q (hash_test T words)
  unfolding hash_test
  hash_ends = after_ends Q (table_test T) _ (table_ends Q causes T) (λ e. words_end Q words q6 (Ok tt) (λ c. tt))

  pub hash_call_ends : (size : ℕ) → Q DestinationLength → AnswerEnds Q (hash_call_test T words size)
  unfolding hash_call_test
  hash_call_ends size q8 =
      after_ends Q (table_test T) _ (table_ends Q causes T) λ e.
      unless_ends Q (eqb size width) DestinationLength _ (λ f. q8) λ f. words_end Q words q6 (Ok tt) (λ c. tt)
