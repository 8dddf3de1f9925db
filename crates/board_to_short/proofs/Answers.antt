-- What the converter's tests say: those of Unpack with room for the taps, and its own.
-- Assumes nothing.
use mathlib.Core.Path.{◌≡◌, refl, sym, ap, ◌∙◌}
use mathlib.Core.List.{List}
use Prim.Native.Nat.{ℕ, ◌+◌}
use borrow.Author.Tests.{eq-eqb, eqb-true, le-leb}
use lib.Dec.{eqb}
use lib.ListN.{length}
use Rattle.std.specs.Prelude.{Ok}
use Rattle.numbers.specs.Numbers.{tap_words}
use Rattle.refusals.specs.Answers.{Answer, unless, after}
use Rattle.refusals.specs.declared.Refusal.TheVariants.{DestinationLength, FileLength}
use Rattle.refusals.proofs.Laws.{passed, both_accepted, after_unless, after_after}
use Rattle.board_words.specs.Words.{word_at}
use Rattle.board_words.specs.Elements.{elements_at, elements_test}
use Rattle.board.specs.Board.{element_count, file_size, batches_in, claim_in, taps_in, count_test, unpack_test, IsBoard}
use Rattle.board.proofs.Answers.{unpack_accepted}
use Rattle.board.proofs.Round.{board_elements}
use Rattle.board_short_words.specs.Short.{all_bytes_needed}
use Rattle.board_short.specs.ShortBoard.{short_file_size}
use Rattle.board_edition.specs.Edition.{full_mark, edition_test}
use Rattle.board_edition.proofs.Answers as edition
use Rattle.board_to_short.specs.ToShort.{to_short_test}

-- ---- the tests from the file's length on, and the last of them
abbrev pub last_test : List ℕ → ℕ → Answer
last_test file size = unless (eqb size (short_file_size (taps_in file) (claim_in file))) DestinationLength (Ok tt)

abbrev pub from_length : List ℕ → ℕ → Answer
from_length file size =
    unless (eqb (length file) (file_size (batches_in file))) FileLength
    (after (elements_test file 1 (element_count (batches_in file))) (last_test file size))

-- the length that is needed, from the elements
pub size_is : (file : List ℕ)
    → 4 + all_bytes_needed (elements_at file 1 (element_count (batches_in file)))
    ≡ short_file_size (taps_in file) (claim_in file)
size_is file = ap (λ s. 4 + all_bytes_needed s) (sym (board_elements file))

-- ---- in a file with the full edition's mark: all that Unpack tests, lent room for the taps, and 8 last
pub as_reader : (file : List ℕ) (size : ℕ) → edition_test file full_mark ≡ Ok tt
    → to_short_test file size ≡ after (unpack_test file (tap_words (batches_in file))) (last_test file size)
unfolding to_short_test unpack_test
as_reader file size e =
    let k = batches_in file in
    let room = eq-eqb (tap_words k) (tap_words k) refl in
    let elements = elements_test file 1 (element_count k) in
    let long = eqb (length file) (file_size k) in
    let last = last_test file size in
    rw (e, le-leb _ _ (edition.accepted file full_mark e).four, room)
    (sym
    (after_after (count_test (word_at file 0)) (unless long FileLength elements) last
    ∙ ap (after (count_test (word_at file 0))) (after_unless long FileLength elements last)))

-- ---- what acceptance says: the mark is the full edition's, Unpack accepts, and the length is what the elements need
mark_accepted : (file : List ℕ) (size : ℕ) → to_short_test file size ≡ Ok tt → edition_test file full_mark ≡ Ok tt
unfolding to_short_test
mark_accepted file size e = (both_accepted (edition_test file full_mark) _ e).0

reader_accepted : (file : List ℕ) (size : ℕ) → to_short_test file size ≡ Ok tt
    → (unpack_test file (tap_words (batches_in file)) ≡ Ok tt) × (size ≡ short_file_size (taps_in file) (claim_in file))
reader_accepted file size e =
    let whole = sym (as_reader file size (mark_accepted file size e)) ∙ e in
    let b = both_accepted (unpack_test file (tap_words (batches_in file))) _ whole in
    let c = passed (eqb size (short_file_size (taps_in file) (claim_in file))) DestinationLength _ b.1 in
    (b.0, eqb-true _ _ c.0)

pub accepted : (file : List ℕ) (size : ℕ) → to_short_test file size ≡ Ok tt
    → IsBoard file (batches_in file) × (size ≡ short_file_size (taps_in file) (claim_in file))
accepted file size e =
    let r = reader_accepted file size e in
    ((unpack_accepted file (tap_words (batches_in file)) r.0).0, r.1)
