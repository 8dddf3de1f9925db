-- Unpack: 12 (below 4), word 0's 13 then 14, 12, 8, then each element's three kinds and its value.
-- Assumes nothing.
use mathlib.Core.Path.{◌≡◌}
use mathlib.Core.Bool.{Bool, false, ◌&&◌}
use mathlib.Core.List.{List}
use Prim.Native.Nat.{ℕ, ◌+◌, ◌*◌}
use native.Mathlib.Omega.{arith}
use borrow.Author.Tests.{eqb-false}
use lib.Dec.{eqb, leb}
use lib.ListN.{length}
use Rattle.refusals.specs.declared.Refusal.{Refusal}
use Rattle.refusals.specs.declared.Refusal.TheVariants.{DestinationLength, FileLength}
use Rattle.refusals.specs.Answers.{unless, after}
use Rattle.refusals.proofs.Laws.{AnswerEnds, unless_ends, after_ends}
use Rattle.board_words.specs.Words.{word_at}
use Rattle.board_words.specs.Elements.{elements_test}
use Rattle.board.specs.Board.{file_size, batches_in, count_test, unpack_test}
use Rattle.call_answers.specs.Calls.{unpack_call_test}
use Rattle.call_answers.proofs.Endings.Full.{FullCauses, elements_end, count_ends}

module _ (Q : Refusal → Type 0) (file : List ℕ) (causes : FullCauses Q file) where
  -- room is what is tested at 8
  read_ends : (room : Bool) → (room ≡ false → Q DestinationLength)
      → AnswerEnds Q (unless (leb 4 (length file)) FileLength
      (after (count_test (word_at file 0))
      (unless (eqb (length file) (file_size (batches_in file))) FileLength
      (unless room DestinationLength
      (elements_test file 1 (12 * batches_in file + 8))))))
  read_ends room q8 =
      unless_ends Q (leb 4 (length file)) FileLength _ (λ e. causes.by_length) λ e.
      after_ends Q (count_test (word_at file 0)) _ (count_ends Q file causes (word_at file 0)) λ f.
      unless_ends Q (eqb (length file) (file_size (batches_in file))) FileLength _ (λ g. causes.by_length) λ g.
      unless_ends Q room DestinationLength _ q8 λ h.
      elements_end Q file causes 1 (12 * batches_in file + 8) (omega arith)

  pub unpack_ends : (size : ℕ) → ((size ≡ 12 * batches_in file + 4 → ⊥) → Q DestinationLength)
      → AnswerEnds Q (unpack_test file size)
  unfolding unpack_test
  unpack_ends size q8 = read_ends (eqb size (12 * batches_in file + 4)) (λ h. q8 (eqb-false _ _ h))

  pub unpack_call_ends : (taps size : ℕ) → Q DestinationLength → AnswerEnds Q (unpack_call_test file taps size)
  unfolding unpack_call_test
  unpack_call_ends taps size q8 = read_ends (eqb size 4 && eqb taps (12 * batches_in file + 4)) (λ h. q8)
