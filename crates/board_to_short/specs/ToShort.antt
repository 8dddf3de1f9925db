-- From the full edition of the board file to the short one (document 02, U8): same claim, same taps, other edition.
-- Assumes nothing.
use Rattle.std.specs.Prelude.{List, ℕ, eqb, length, Ok}
use Rattle.refusals.specs.Answers.{Answer, unless, after, leaves}
use Rattle.refusals.specs.declared.Refusal.TheVariants.{DestinationLength, FileLength}
use Rattle.board_words.specs.Words.{word_at}
use Rattle.board_words.specs.Elements.{elements_test}
use Rattle.board.specs.Board.{element_count, file_size, batches_in, claim_in, taps_in, count_test}
use Rattle.board_short.specs.ShortBoard.{short_file_size, packed_short}
use Rattle.board_edition.specs.Edition.{full_mark, edition_test}

-- 12 (below 4), word 0's 13, 19, 14, 12, then each element's 13 and 14, and last 8; size is the destination's length
unfoldable pub to_short_test : List ℕ → ℕ → Answer
to_short_test file size =
    after (edition_test file full_mark)
    (after (count_test (word_at file 0))
    (unless (eqb (length file) (file_size (batches_in file))) FileLength
    (after (elements_test file 1 (element_count (batches_in file)))
    (unless (eqb size (short_file_size (taps_in file) (claim_in file))) DestinationLength
    (Ok tt)))))

-- what is left in the destination: the short file of the taps and the claim, or what was there
unfoldable pub to_short_leaves : List ℕ → List ℕ → List ℕ
to_short_leaves file old = leaves (to_short_test file (length old)) (packed_short (taps_in file) (claim_in file)) old
