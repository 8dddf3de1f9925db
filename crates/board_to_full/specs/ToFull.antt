-- From the short edition of the board file to the full one (document 02, U8 and U9): same claim, same taps, other
-- edition.
-- Assumes nothing.
use Rattle.std.specs.Prelude.{◌≡◌, List, ℕ, ◌≤◌, ◌<◌, eqb, leb, length, Ok}
use Rattle.numbers.specs.Numbers.{IsPermitted}
use Rattle.refusals.specs.Answers.{Answer, unless, after, leaves}
use Rattle.refusals.specs.declared.Refusal.TheVariants.{DestinationLength, WrongValue}
use Rattle.board_words.specs.Words.{word_at}
use Rattle.board.specs.Board.{most_file_batches, element_count, file_size, packed}
use Rattle.board_short_read.specs.Reading.{shorts_test}
use Rattle.board_short.specs.ShortBoard.{short_count_word, short_batches_in, short_claim_in, short_taps_in}
use Rattle.board_short.specs.ShortBoard.{short_count_test}
use Rattle.board_edition.specs.Edition.{short_mark, edition_test}

-- 12 (below 4), word 0's 13, 19, 14, right after it 14 for more batches than a full file has (U9), then element by
-- element 12 where the input ends, 13, 14, 18, and 12 for bytes after the last, and last 8; size is the destination's
-- length
unfoldable pub to_full_test : List ℕ → ℕ → Answer
to_full_test file size =
    after (edition_test file short_mark)
    (after (short_count_test (word_at file 0))
    (unless (leb (short_batches_in file) most_file_batches) (WrongValue 0)
    (after (shorts_test file 1 (element_count (short_batches_in file)))
    (unless (eqb size (file_size (short_batches_in file))) DestinationLength
    (Ok tt)))))

-- what is left in the destination: the full file of the taps and the claim, or what was there
unfoldable pub to_full_leaves : List ℕ → List ℕ → List ℕ
to_full_leaves file old = leaves (to_full_test file (length old)) (packed (short_taps_in file) (short_claim_in file)) old

-- ---- which short file has no full form, whatever comes after word 0: one of more batches than a full file has (U9)
pub record NoFullForm (file : List ℕ) : Type 0 where
  pub k : ℕ
  pub four : 4 ≤ length file
  pub word : word_at file 0 ≡ short_count_word k
  pub permitted : IsPermitted k
  pub above : most_file_batches < k
