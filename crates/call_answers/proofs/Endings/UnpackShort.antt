-- The short edition's reader: 12 (below 4), word 0's 13 then 14, 8, then element by element 12, 13, 14, 18, and 12.
-- Assumes nothing.
use mathlib.Core.Path.{◌≡◌}
use mathlib.Core.Bool.{Bool, false, ◌&&◌}
use mathlib.Core.List.{List}
use Prim.Native.Nat.{ℕ, ◌+◌, ◌*◌}
use native.Mathlib.Omega.{arith}
use borrow.Author.Tests.{eqb-false}
use lib.Dec.{eqb, leb}
use lib.ListN.{length}
use Rattle.refusals.specs.declared.Refusal.{Refusal}
use Rattle.refusals.specs.declared.Refusal.TheVariants.{DestinationLength, FileLength}
use Rattle.refusals.specs.Answers.{unless, after}
use Rattle.refusals.proofs.Laws.{AnswerEnds, unless_ends, after_ends}
use Rattle.board_words.specs.Words.{word_at}
use Rattle.board_short_read.specs.Reading.{shorts_test}
use Rattle.board_short.specs.ShortBoard.{short_count_test, unpack_short_test, short_batches_in}
use Rattle.call_answers.specs.Calls.{unpack_short_call_test}
use Rattle.call_answers.proofs.Endings.Short.{ShortCauses, short_elements_end, short_count_ends}

module _ (Q : Refusal → Type 0) (file : List ℕ) (causes : ShortCauses Q file) where
  -- room is what is tested at 8
  read_short_ends : (room : Bool) → (room ≡ false → Q DestinationLength)
      → AnswerEnds Q (unless (leb 4 (length file)) FileLength
      (after (short_count_test (word_at file 0))
      (unless room DestinationLength
      (shorts_test file 1 (12 * short_batches_in file + 8)))))
  read_short_ends room q8 =
      unless_ends Q (leb 4 (length file)) FileLength _ (λ e. causes.by_length) λ e.
      after_ends Q (short_count_test (word_at file 0)) _ (short_count_ends Q file causes (word_at file 0)) λ f.
      unless_ends Q room DestinationLength _ q8 λ h.
      short_elements_end Q file causes 1 (12 * short_batches_in file + 8) (omega arith)

  pub unpack_short_ends : (size : ℕ) → ((size ≡ 12 * short_batches_in file + 4 → ⊥) → Q DestinationLength)
      → AnswerEnds Q (unpack_short_test file size)
  unfolding unpack_short_test
  unpack_short_ends size q8 = read_short_ends (eqb size (12 * short_batches_in file + 4)) (λ h. q8 (eqb-false _ _ h))

  pub unpack_short_call_ends : (taps size : ℕ) → Q DestinationLength
      → AnswerEnds Q (unpack_short_call_test file taps size)
  unfolding unpack_short_call_test
  unpack_short_call_ends taps size q8 =
      read_short_ends (eqb size 4 && eqb taps (12 * short_batches_in file + 4)) (λ h. q8)
