-- From the short edition to the full one: 12 (below 4), word 0's 13, 19, 14, right after it 14 for more batches than a
-- full file has, then element by element 12, 13, 14, 18, and 12, and last 8.
-- Assumes nothing.
use mathlib.Core.List.{List}
use Prim.Native.Nat.{ℕ, ◌+◌, ◌*◌}
use native.Mathlib.Omega.{arith}
use lib.Dec.{eqb, leb}
use Rattle.refusals.specs.declared.Refusal.{Refusal}
use Rattle.refusals.specs.declared.Refusal.TheVariants.{DestinationLength, WrongValue, SameEdition}
use Rattle.refusals.proofs.Laws.{AnswerEnds, unless_ends, after_ends}
use Rattle.board_words.specs.Words.{word_at}
use Rattle.board.specs.Board.{most_file_batches, file_size}
use Rattle.board_short_read.specs.Reading.{shorts_test}
use Rattle.board_short.specs.ShortBoard.{short_count_test, short_batches_in}
use Rattle.board_edition.specs.Edition.{short_mark, edition_test}
use Rattle.board_to_full.specs.ToFull.{to_full_test}
use Rattle.call_answers.proofs.Endings.Short.{ShortCauses, short_elements_end, short_count_ends}
use Rattle.call_answers.proofs.Endings.Edition.{edition_ends}

pub to_full_ends : (Q : Refusal → Type 0) (file : List ℕ) → ShortCauses Q file → (size : ℕ) → Q SameEdition
    → Q DestinationLength → AnswerEnds Q (to_full_test file size)
unfolding to_full_test
to_full_ends Q file causes size q19 q8 =
    after_ends Q (edition_test file short_mark) _
    (edition_ends Q file short_mark causes.by_length (causes.by_kind 0 (omega arith)) q19) λ e.
    after_ends Q (short_count_test (word_at file 0)) _ (short_count_ends Q file causes (word_at file 0)) λ f.
    unless_ends Q (leb (short_batches_in file) most_file_batches) (WrongValue 0) _ (λ g. causes.by_value 0 (omega arith))
    λ g.
    after_ends Q (shorts_test file 1 (12 * short_batches_in file + 8)) _
    (short_elements_end Q file causes 1 (12 * short_batches_in file + 8) (omega arith)) λ h.
    unless_ends Q (eqb size (file_size (short_batches_in file))) DestinationLength _ (λ i. q8) λ i. tt
