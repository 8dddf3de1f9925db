-- Of a file that the short edition's reader accepts and that has a full form, the converter answers and leaves what Pack
-- does with its taps and its claim.
-- Assumes nothing.
use mathlib.Core.Path.{◌≡◌, sym, ap, ◌∙◌}
use mathlib.Core.List.{List}
use Prim.Native.Nat.{ℕ, ◌≤◌, ◌<◌}
use native.Mathlib.Decide.{dec_lt}
use native.Mathlib.Omega.{arith}
use lib.ListN.{length}
use Rattle.std.specs.Prelude.{Ok}
use Rattle.field_words.proofs.Laws.{test_good}
use Rattle.numbers.specs.Numbers.{tap_words}
use Rattle.numbers.proofs.Laws.{permitted_to, tap_length_complete}
use Rattle.refusals.specs.Answers.{after, leaves}
use Rattle.board.specs.Board.{most_file_batches, pack_test, packed, pack_leaves}
use Rattle.board_short.specs.ShortBoard.{short_batches_in, short_claim_in, short_taps_in, unpack_short_test}
use Rattle.board_short.specs.ShortBoard.{IsShortBoard}
use Rattle.board_short.proofs.Answers.{unpack_accepted}
use Rattle.board_short.proofs.Round.{board_canonical, taps_length}
use Rattle.board_edition.specs.Edition.{short_mark, HasMark}
use Rattle.board_to_full.specs.ToFull.{to_full_test, to_full_leaves, NoFullForm}
use Rattle.board_to_full.proofs.Answers.{last_test, as_reader}

-- a short file has the short edition's mark
board_mark : (file : List ℕ) (k : ℕ) → IsShortBoard file k → HasMark file short_mark
board_mark file k h = record {
  four = h.four;
  kind = omega (arith, h.word, h.permitted.high);
  mark_is = omega (arith, h.word, h.permitted.high);
}

module _ (file : List ℕ) (n : ℕ) (e : unpack_short_test file n ≡ Ok tt) (formed : NoFullForm file → ⊥) where
  -- so a full file can have its k
  small : short_batches_in file ≤ most_file_batches
  small = go (dec_lt most_file_batches (short_batches_in file))
    where
      go : Dec (most_file_batches < short_batches_in file) → short_batches_in file ≤ most_file_batches
      go (no l) = omega (arith, l)
      go (yes l) =
          let h = (unpack_accepted file n e).0 in
          absurd (formed (record {
            k = short_batches_in file;
            four = h.four;
            word = h.word;
            permitted = h.permitted;
            above = l;
          }))

  -- nothing but the destination's length is left to test, by the converter
  converter_left : (size : ℕ) → to_full_test file size ≡ last_test file size
  converter_left size =
      let u = unpack_accepted file n e in
      let room : n ≡ tap_words (short_batches_in file) = u.1 in
      as_reader file size (board_mark file (short_batches_in file) u.0) formed
      ∙ ap (λ a. after a (last_test file size)) (ap (unpack_short_test file) (sym room) ∙ e)

  -- and by the writer
  writer_left : (size : ℕ) → pack_test (short_taps_in file) (short_claim_in file) size ≡ last_test file size
  unfolding pack_test
  writer_left size =
      let h = (unpack_accepted file n e).0 in
      let canonical = board_canonical file h in
      let k = short_batches_in file in
      let p = permitted_to most_file_batches k h.permitted small in
      let taps = tap_length_complete most_file_batches (length (short_taps_in file)) k (taps_length file) p in
      rw (taps.0, taps.1, test_good (short_claim_in file) canonical.0, test_good (short_taps_in file) canonical.1)

  pub as_writer : (size : ℕ) → to_full_test file size ≡ pack_test (short_taps_in file) (short_claim_in file) size
  as_writer size = converter_left size ∙ sym (writer_left size)

  pub left_as_writer : (old : List ℕ) → to_full_leaves file old ≡ pack_leaves (short_taps_in file) (short_claim_in file) old
  unfolding to_full_leaves pack_leaves
  left_as_writer old = ap (λ a. leaves a (packed (short_taps_in file) (short_claim_in file)) old) (as_writer (length old))
