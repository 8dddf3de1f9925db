-- From the full edition to the short one: 12 (below 4), word 0's 13, 19, 14, 12, then each element's 13 and 14, and
-- last 8.
-- Assumes nothing.
use mathlib.Core.List.{List}
use Prim.Native.Nat.{ℕ, ◌+◌, ◌*◌}
use native.Mathlib.Omega.{arith}
use lib.Dec.{eqb}
use lib.ListN.{length}
use Rattle.refusals.specs.declared.Refusal.{Refusal}
use Rattle.refusals.specs.declared.Refusal.TheVariants.{DestinationLength, FileLength, SameEdition}
use Rattle.refusals.proofs.Laws.{AnswerEnds, unless_ends, after_ends}
use Rattle.board_words.specs.Words.{word_at}
use Rattle.board_words.specs.Elements.{elements_test}
use Rattle.board.specs.Board.{file_size, batches_in, claim_in, taps_in, count_test}
use Rattle.board_short.specs.ShortBoard.{short_file_size}
use Rattle.board_edition.specs.Edition.{full_mark, edition_test}
use Rattle.board_to_short.specs.ToShort.{to_short_test}
use Rattle.call_answers.proofs.Endings.Full.{FullCauses, elements_end, count_ends}
use Rattle.call_answers.proofs.Endings.Edition.{edition_ends}

pub to_short_ends : (Q : Refusal → Type 0) (file : List ℕ) → FullCauses Q file → (size : ℕ) → Q SameEdition
    → Q DestinationLength → AnswerEnds Q (to_short_test file size)
unfolding to_short_test
to_short_ends Q file causes size q19 q8 =
    after_ends Q (edition_test file full_mark) _
    (edition_ends Q file full_mark causes.by_length (causes.by_kind 0 (omega arith)) q19) λ e.
    after_ends Q (count_test (word_at file 0)) _ (count_ends Q file causes (word_at file 0)) λ f.
    unless_ends Q (eqb (length file) (file_size (batches_in file))) FileLength _ (λ g. causes.by_length) λ g.
    after_ends Q (elements_test file 1 (12 * batches_in file + 8)) _
    (elements_end Q file causes 1 (12 * batches_in file + 8) (omega arith)) λ h.
    unless_ends Q (eqb size (short_file_size (taps_in file) (claim_in file))) DestinationLength _ (λ i. q8) λ i. tt
