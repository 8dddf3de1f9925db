-- The known files: what is written by computing, and from that what is read by the round trips.
-- Assumes nothing.
use mathlib.Core.Path.{◌≡◌, refl, ap, ◌∙◌}
use mathlib.Core.List.{List}
use Prim.Native.Nat.{ℕ}
use lib.Count.{ones}
use lib.ListN.{length}
use Rattle.std.specs.Prelude.{Ok}
use Rattle.lists.specs.Lists.{each, sum, first}
use Rattle.field_words.specs.Words.{first_bad}
use Rattle.refusals.specs.Answers.{Answer, leaves}
use Rattle.refusals.proofs.Laws.{value_accepted}
use Rattle.board.specs.Board.{file_of, pack_test, packed, pack_leaves, taps_in, unpack_test, unpack_answer}
use Rattle.board.specs.Board.{unpack_leaves}
use Rattle.board.proofs.Theorems as board
use Rattle.board_short_words.specs.Short.{all_bytes_needed}
use Rattle.board_short.specs.ShortBoard.{short_file_of, pack_short_test, packed_short, pack_short_leaves, short_taps_in}
use Rattle.board_short.specs.ShortBoard.{unpack_short_test, unpack_short_answer, unpack_short_leaves}
use Rattle.board_short.proofs.Theorems as short
use Rattle.known_days.specs.Files.{FullFile, ShortFile, zero_file, zero_short, day_claim, day_taps, day_file, day_short}
use Rattle.known_days.specs.Files.{KnownFiles}

-- what is left in a destination of the length that the test accepts
pub left : (test : ℕ → Answer) (n : ℕ) (new x : List ℕ) → test n ≡ Ok tt → new ≡ x → (old : List ℕ) → length old ≡ n
    → leaves (test (length old)) new old ≡ x
left test n new x e q old l = ap (λ m. leaves (test m) new old) l ∙ rw e q

-- ---- bytes that the writer accepts to write, and that are what it writes
module _ (taps claim file : List ℕ) (four : length claim ≡ 4) where
  full_file : pack_test taps claim (length file) ≡ Ok tt → packed taps claim ≡ file → FullFile taps claim file
  unfolding pack_leaves unpack_answer unpack_leaves
  full_file e bytes =
      let u : (unpack_answer file (length taps) ≡ Ok claim) × (taps_in file ≡ taps) =
      rw bytes at (board.unpack_packed taps claim (length file) four e) in
      let passes = (value_accepted (unpack_test file (length taps)) _ _ u.0).0 in
      record {
        accepted = e;
        written = left (pack_test taps claim) (length file) (packed taps claim) file e bytes;
        returned = u.0;
        read = left (unpack_test file) (length taps) (taps_in file) taps passes u.1;
      }

  pub short_file : pack_short_test taps claim (length file) ≡ Ok tt → packed_short taps claim ≡ file
      → ShortFile taps claim file
  unfolding pack_short_leaves unpack_short_answer unpack_short_leaves
  short_file e bytes =
      let u : (unpack_short_answer file (length taps) ≡ Ok claim) × (short_taps_in file ≡ taps) =
      rw bytes at (short.unpack_packed taps claim (length file) four e) in
      let passes = (value_accepted (unpack_short_test file (length taps)) _ _ u.0).0 in
      record {
        accepted = e;
        written = left (pack_short_test taps claim) (length file) (packed_short taps claim) file e bytes;
        returned = u.0;
        read = left (unpack_short_test file) (length taps) (short_taps_in file) taps passes u.1;
      }

pub known_files : KnownFiles
unfolding ones each sum first first_bad file_of pack_test packed all_bytes_needed short_file_of pack_short_test packed_short
    zero_file zero_short day_claim day_taps day_file day_short
known_files = record {
  zero_length = refl;
  zero_file_lem = full_file _ _ zero_file refl refl refl;
  zero_short_lem = short_file _ _ zero_short refl refl refl;
  day_file_lem = full_file day_taps day_claim day_file refl refl refl;
  day_short_lem = short_file day_taps day_claim day_short refl refl refl;
}
