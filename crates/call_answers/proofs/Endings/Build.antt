-- Build: the table's refusals, 5, 8, 6.
-- Assumes nothing.
use mathlib.Core.Bool.{Bool, ◌&&◌}
use mathlib.Core.List.{List}
use Prim.Native.Nat.{ℕ, ◌*◌}
use lib.Dec.{eqb}
use lib.ListN.{length}
use Rattle.std.specs.Prelude.{Ok}
use Rattle.field_words.specs.Words.{first_bad, canonical_words}
use Rattle.numbers.specs.Numbers.{most_batches, is_tap_length, tap_word_batches}
use Rattle.refusals.specs.declared.Refusal.{Refusal}
use Rattle.refusals.specs.declared.Refusal.TheVariants.{TapLength, TapWord, DestinationLength}
use Rattle.refusals.specs.Answers.{unless, after}
use Rattle.refusals.proofs.Laws.{AnswerEnds, unless_ends, after_ends}
use Rattle.table.specs.Table.{table_test}
use Rattle.trace.specs.Answers.{build_test}
use Rattle.call_answers.specs.Calls.{build_call_test}
use Rattle.call_answers.proofs.Endings.Table.{TableCauses, table_ends}
use Rattle.call_answers.proofs.Endings.Taps.{words_end, TapsCauses, taps_end}

module _ (Q : Refusal → Type 0) (causes : TableCauses Q) (T w : List ℕ) (taps : TapsCauses Q most_batches w) where
  room_ends : Q DestinationLength → (room : Bool)
      → AnswerEnds Q (after (table_test T)
      (unless (is_tap_length most_batches (length w)) TapLength
      (unless room DestinationLength
      (unless (canonical_words w) (TapWord (first_bad w)) (Ok tt)))))
  room_ends q8 room =
      after_ends Q (table_test T) _ (table_ends Q causes T) λ e.
      taps_end Q most_batches w taps _ λ q.
      unless_ends Q room DestinationLength _ (λ f. q8) λ f. words_end Q w q (Ok tt) (λ c. tt)

  pub build_ends : (rows : ℕ) → Q DestinationLength → AnswerEnds Q (build_test T w rows)
  unfolding build_test
  build_ends rows q8 = room_ends q8 (eqb rows (384 * tap_word_batches (length w)))

  pub build_call_ends : (rows size : ℕ) → Q DestinationLength → AnswerEnds Q (build_call_test T w rows size)
  unfolding build_call_test
  build_call_ends rows size q8 = room_ends q8 (eqb size 4 && eqb rows (384 * tap_word_batches (length w)))
