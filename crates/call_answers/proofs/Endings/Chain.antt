-- Chain: the table's refusals, 5, 6; from another language 8 between them.
-- Assumes nothing.
use mathlib.Core.List.{List}
use Prim.Native.Nat.{ℕ}
use lib.Dec.{eqb}
use Rattle.std.specs.Prelude.{Ok}
use Rattle.numbers.specs.Numbers.{most_batches}
use Rattle.refusals.specs.declared.Refusal.{Refusal}
use Rattle.refusals.specs.declared.Refusal.TheVariants.{DestinationLength}
use Rattle.refusals.proofs.Laws.{AnswerEnds, unless_ends, after_ends}
use Rattle.table.specs.Table.{table_test}
use Rattle.hash_chain.specs.Answers.{chain_test}
use Rattle.call_answers.specs.Calls.{chain_call_test}
use Rattle.call_answers.proofs.Endings.Table.{TableCauses, table_ends}
use Rattle.call_answers.proofs.Endings.Taps.{words_end, TapsCauses, taps_end}

module _ (Q : Refusal → Type 0) (causes : TableCauses Q) (T w : List ℕ) (taps : TapsCauses Q most_batches w) where
  pub chain_ends : AnswerEnds Q (chain_test T w)
  unfolding chain_test
  chain_ends =
      after_ends Q (table_test T) _ (table_ends Q causes T) λ e.
      taps_end Q most_batches w taps _ λ q. words_end Q w q (Ok tt) (λ c. tt)

  pub chain_call_ends : (size : ℕ) → Q DestinationLength → AnswerEnds Q (chain_call_test T w size)
  unfolding chain_call_test
  chain_call_ends size q8 =
      after_ends Q (table_test T) _ (table_ends Q causes T) λ e.
      taps_end Q most_batches w taps _ λ q.
      unless_ends Q (eqb size 4) DestinationLength _ (λ f. q8) λ f. words_end Q w q (Ok tt) (λ c. tt)
