-- What the converter's tests say: those of the short edition's reader with room for the taps, and its own.
-- Assumes nothing.
use mathlib.Core.Path.{◌≡◌, refl, sym, ◌∙◌}
use mathlib.Core.List.{List}
use Prim.Native.Nat.{ℕ, ◌≤◌, ◌<◌}
use native.Mathlib.Decide.{dec_le, dec_lt}
use native.Mathlib.Omega.{arith}
use borrow.Author.Tests.{eq-eqb, eqb-true, le-leb, lt-leb, leb-true}
use lib.Dec.{eqb, leb}
use lib.ListN.{length}
use Rattle.std.specs.Prelude.{Ok, Err}
use Rattle.numbers.specs.Numbers.{tap_words}
use Rattle.refusals.specs.Answers.{Answer, unless, after}
use Rattle.refusals.specs.declared.Refusal.TheVariants.{DestinationLength, WrongValue}
use Rattle.refusals.proofs.Laws.{not_accepted, passed, both_accepted, after_after}
use Rattle.board_words.specs.Words.{word_at}
use Rattle.board.specs.Board.{most_file_batches, element_count, file_size}
use Rattle.board_short_read.specs.Reading.{shorts_test}
use Rattle.board_short.specs.ShortBoard.{short_batches_in, short_count_test, unpack_short_test, IsShortBoard}
use Rattle.board_short.proofs.Answers.{count_accepted, counts, unpack_accepted}
use Rattle.board_edition.specs.Edition.{short_mark, edition_test, HasMark}
use Rattle.board_edition.proofs.Answers as edition
use Rattle.board_to_full.specs.ToFull.{to_full_test, NoFullForm}

-- ---- the last test, and those from the elements on
abbrev pub last_test : List ℕ → ℕ → Answer
last_test file size = unless (eqb size (file_size (short_batches_in file))) DestinationLength (Ok tt)

abbrev pub from_elements : List ℕ → ℕ → Answer
from_elements file size = after (shorts_test file 1 (element_count (short_batches_in file))) (last_test file size)

abbrev pub from_most : List ℕ → ℕ → Answer
from_most file size =
    unless (leb (short_batches_in file) most_file_batches) (WrongValue 0) (from_elements file size)

-- ---- in a file with the short edition's mark and at most as many batches as a full file has: all that its reader
-- tests, lent room for the taps, and 8 last
as_small : (file : List ℕ) (size : ℕ) → edition_test file short_mark ≡ Ok tt → short_batches_in file ≤ most_file_batches
    → to_full_test file size ≡ after (unpack_short_test file (tap_words (short_batches_in file))) (last_test file size)
unfolding to_full_test unpack_short_test
as_small file size e small =
    let k = short_batches_in file in
    let room = eq-eqb (tap_words k) (tap_words k) refl in
    let elements = shorts_test file 1 (element_count k) in
    rw (e, le-leb _ _ (edition.accepted file short_mark e).four, le-leb _ _ small, room)
    (sym (after_after (short_count_test (word_at file 0)) elements (last_test file size)))

-- ---- a file without a full form

-- it has the short edition's mark, and word 0 is accepted
pub its_mark : (file : List ℕ) → NoFullForm file → HasMark file short_mark
its_mark file h = record {
  four = h.four;
  kind = omega (arith, h.word, h.permitted.high);
  mark_is = omega (arith, h.word, h.permitted.high);
}

pub without : (file : List ℕ) (size : ℕ) → NoFullForm file → to_full_test file size ≡ Err (WrongValue 0)
unfolding to_full_test
without file size h =
    let c = counts file h.k h.word h.permitted in
    rw (edition.accepts file short_mark (its_mark file h), c.1, c.0, lt-leb _ _ h.above)

-- its k
pub above_most : (file : List ℕ) → NoFullForm file → most_file_batches < short_batches_in file
above_most file h = rw (counts file h.k h.word h.permitted).0 h.above

-- which file has one is decided by word 0
pub form : (file : List ℕ) → Dec (NoFullForm file)
unfolding short_batches_in
form file =
    go (short_count_test (word_at file 0)) refl (dec_le 4 (length file)) (dec_lt most_file_batches (short_batches_in file))
  where
    go : (a : Answer) → short_count_test (word_at file 0) ≡ a → Dec (4 ≤ length file)
        → Dec (most_file_batches < short_batches_in file) → Dec (NoFullForm file)
    go (Err r) e four above =
        no λ h. not_accepted r (sym e ∙ (counts file h.k h.word h.permitted).1)
    go (Ok _) e (no n) above = no λ h. n h.four
    go (Ok _) e (yes y) (no n) = no λ h. n (above_most file h)
    go (Ok _) e (yes y) (yes above) =
        let w = count_accepted (word_at file 0) e in
        yes (record { k = short_batches_in file; four = y; word = w.0; permitted = w.1; above = above })

-- ---- in a file with the short edition's mark that has a full form: all that its reader tests, lent room for the taps,
-- and 8 last
pub as_reader : (file : List ℕ) (size : ℕ) → HasMark file short_mark → (NoFullForm file → ⊥)
    → to_full_test file size ≡ after (unpack_short_test file (tap_words (short_batches_in file))) (last_test file size)
unfolding to_full_test unpack_short_test short_batches_in
as_reader file size m n = go (short_count_test (word_at file 0)) refl (dec_lt most_file_batches (short_batches_in file))
  where
    marked : edition_test file short_mark ≡ Ok tt
    marked = edition.accepts file short_mark m

    go : (a : Answer) → short_count_test (word_at file 0) ≡ a → Dec (most_file_batches < short_batches_in file)
        → to_full_test file size ≡ after (unpack_short_test file (tap_words (short_batches_in file))) (last_test file size)
    go (Err r) e d = rw (marked, le-leb _ _ m.four, e) refl
    go (Ok _) e (no small) = as_small file size marked (omega (arith, small))
    go (Ok _) e (yes above) =
        let w = count_accepted (word_at file 0) e in
        absurd (n (record { k = short_batches_in file; four = m.four; word = w.0; permitted = w.1; above = above }))

-- what acceptance says of word 0
formed : (file : List ℕ) (size : ℕ) → to_full_test file size ≡ Ok tt
    → (edition_test file short_mark ≡ Ok tt) × (short_batches_in file ≤ most_file_batches)
unfolding to_full_test
formed file size e =
    let a = both_accepted (edition_test file short_mark) _ e in
    let b = both_accepted (short_count_test (word_at file 0)) _ a.1 in
    let c = passed (leb (short_batches_in file) most_file_batches) (WrongValue 0) _ b.1 in
    (a.0, leb-true _ _ c.0)

-- ---- what acceptance says: its reader accepts, a full file can have its k, and the length is the full file's
pub accepted : (file : List ℕ) (size : ℕ) → to_full_test file size ≡ Ok tt
    → IsShortBoard file (short_batches_in file)
    × (short_batches_in file ≤ most_file_batches) × (size ≡ file_size (short_batches_in file))
accepted file size e =
    let f = formed file size e in
    let whole = sym (as_small file size f.0 f.1) ∙ e in
    let b = both_accepted (unpack_short_test file (tap_words (short_batches_in file))) _ whole in
    let c = passed (eqb size (file_size (short_batches_in file))) DestinationLength _ b.1 in
    ((unpack_accepted file (tap_words (short_batches_in file)) b.0).0, f.1, eqb-true _ _ c.0)
