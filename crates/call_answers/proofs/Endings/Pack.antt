-- Pack and the short edition's writer: 5, 8, 9, 6.
-- Assumes nothing.
use mathlib.Core.List.{List}
use Prim.Native.Nat.{ℕ, ◌<◌}
use lib.Dec.{eqb}
use lib.ListN.{length}
use Rattle.std.specs.Prelude.{Ok}
use Rattle.field_words.specs.Words.{first_bad, canonical_words}
use Rattle.field_words.proofs.Laws.{bad_test}
use Rattle.numbers.specs.Numbers.{most_batches, is_tap_length, tap_word_batches}
use Rattle.refusals.specs.declared.Refusal.{Refusal}
use Rattle.refusals.specs.declared.Refusal.TheVariants.{TapLength, TapWord, DestinationLength, ClaimWord}
use Rattle.refusals.specs.Answers.{unless}
use Rattle.refusals.proofs.Laws.{AnswerEnds, unless_ends}
use Rattle.board.specs.Board.{most_file_batches, file_size, pack_test}
use Rattle.board_short.specs.ShortBoard.{short_file_size, pack_short_test}
use Rattle.call_answers.proofs.Endings.Taps.{words_end, TapsCauses, taps_end}

module _ (Q : Refusal → Type 0) (taps claim : List ℕ) (size : ℕ) (q8 : Q DestinationLength)
    (q9 : (i : ℕ) → i < length claim → Q (ClaimWord i)) where
  -- most is the edition's most batches, n the length of its file
  write_ends : (most n : ℕ) → TapsCauses Q most taps
      → AnswerEnds Q (unless (is_tap_length most (length taps)) TapLength
      (unless (eqb size n) DestinationLength
      (unless (canonical_words claim) (ClaimWord (first_bad claim))
      (unless (canonical_words taps) (TapWord (first_bad taps)) (Ok tt)))))
  write_ends most n causes =
      taps_end Q most taps causes _ λ q6.
      unless_ends Q (eqb size n) DestinationLength _ (λ f. q8) λ f.
      unless_ends Q (canonical_words claim) (ClaimWord (first_bad claim)) _
      (λ g. q9 (first_bad claim) (bad_test claim g)) λ g. words_end Q taps q6 (Ok tt) (λ c. tt)

  pub pack_ends : TapsCauses Q most_file_batches taps → AnswerEnds Q (pack_test taps claim size)
  unfolding pack_test
  pack_ends = write_ends most_file_batches (file_size (tap_word_batches (length taps)))

  pub pack_short_ends : TapsCauses Q most_batches taps → AnswerEnds Q (pack_short_test taps claim size)
  unfolding pack_short_test
  pack_short_ends = write_ends most_batches (short_file_size taps claim)
