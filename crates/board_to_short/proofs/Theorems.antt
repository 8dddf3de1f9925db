-- Of a file that Unpack accepts, the converter answers and leaves what the short edition's writer does with its taps
-- and its claim.
-- Assumes nothing.
use mathlib.Core.Path.{◌≡◌, sym, ap, ◌∙◌}
use mathlib.Core.List.{List}
use Prim.Native.Nat.{ℕ}
use native.Mathlib.Omega.{arith}
use lib.ListN.{length}
use Rattle.std.specs.Prelude.{Ok}
use Rattle.field_words.proofs.Laws.{test_good}
use Rattle.numbers.specs.Numbers.{tap_words, most_batches}
use Rattle.numbers.proofs.Laws.{permitted_to, tap_length_complete}
use Rattle.refusals.specs.Answers.{after, leaves}
use Rattle.board.specs.Board.{batches_in, claim_in, taps_in, unpack_test, IsBoard}
use Rattle.board.proofs.Answers.{unpack_accepted}
use Rattle.board.proofs.Round.{board_canonical, taps_length}
use Rattle.board_short.specs.ShortBoard.{pack_short_test, packed_short, pack_short_leaves}
use Rattle.board_edition.specs.Edition.{full_mark, HasMark}
use Rattle.board_edition.proofs.Answers as edition
use Rattle.board_to_short.specs.ToShort.{to_short_test, to_short_leaves}
use Rattle.board_to_short.proofs.Answers.{last_test, as_reader}

-- a board file has the full edition's mark
board_mark : (file : List ℕ) (k : ℕ) → IsBoard file k → HasMark file full_mark
board_mark file k h = record {
  four = omega (arith, h.size);
  kind = omega (arith, h.word, h.permitted.high);
  mark_is = omega (arith, h.word, h.permitted.high);
}

module _ (file : List ℕ) (n : ℕ) (e : unpack_test file n ≡ Ok tt) where
  -- nothing but the destination's length is left to test, by the converter
  converter_left : (size : ℕ) → to_short_test file size ≡ last_test file size
  converter_left size =
      let u = unpack_accepted file n e in
      let room : n ≡ tap_words (batches_in file) = u.1 in
      as_reader file size (edition.accepts file full_mark (board_mark file (batches_in file) u.0))
      ∙ ap (λ a. after a (last_test file size)) (ap (unpack_test file) (sym room) ∙ e)

  -- and by the writer
  writer_left : (size : ℕ) → pack_short_test (taps_in file) (claim_in file) size ≡ last_test file size
  unfolding pack_short_test
  writer_left size =
      let h = (unpack_accepted file n e).0 in
      let canonical = board_canonical file h in
      let k = batches_in file in
      let p = permitted_to most_batches k h.permitted (omega (arith, h.permitted.high)) in
      let taps = tap_length_complete most_batches (length (taps_in file)) k (taps_length file) p in
      rw (taps.0, test_good (claim_in file) canonical.0, test_good (taps_in file) canonical.1)

  pub as_writer : (size : ℕ) → to_short_test file size ≡ pack_short_test (taps_in file) (claim_in file) size
  as_writer size = converter_left size ∙ sym (writer_left size)

  pub left_as_writer : (old : List ℕ) → to_short_leaves file old ≡ pack_short_leaves (taps_in file) (claim_in file) old
  unfolding to_short_leaves pack_short_leaves
  left_as_writer old = ap (λ a. leaves a (packed_short (taps_in file) (claim_in file)) old) (as_writer (length old))
