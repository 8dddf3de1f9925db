-- What the tests of the short edition's writer and reader say where they accept, and that they accept what passes each
-- of them.
-- Assumes nothing.
use mathlib.Core.Path.{◌≡◌, refl, sym, ap, ◌∙◌}
use mathlib.Core.List.{List}
use Prim.Native.Nat.{ℕ, ◌/◌, ◌^◌}
use native.Mathlib.Decide.{ℕ_discrete}
use native.Mathlib.Omega.{arith}
use borrow.Author.Tests.{eq-eqb, ne_eqb, eqb-true, le-leb, leb-true}
use lib.Dec.{eqb, leb}
use lib.ListN.{length}
use Rattle.std.specs.Prelude.{Ok, Err}
use Rattle.field_words.specs.Words.{AllCanonical, first_bad, canonical_words}
use Rattle.field_words.proofs.Laws.{test_good, good_test}
use Rattle.numbers.specs.Numbers.{tap_words, permitted, tap_word_batches, is_tap_length, most_batches, IsPermitted}
use Rattle.numbers.proofs.Laws.{permitted_sound, permitted_complete, tap_length_sound, tap_length_complete}
use Rattle.refusals.specs.Answers.{Answer, unless}
use Rattle.refusals.specs.declared.Refusal.{Refusal}
use Rattle.refusals.specs.declared.Refusal.TheVariants.{TapLength, TapWord, DestinationLength, ClaimWord, FileLength}
use Rattle.refusals.specs.declared.Refusal.TheVariants.{WrongKind, WrongValue}
use Rattle.refusals.proofs.Laws.{not_accepted, refused_same, passed, both_accepted, value_accepted, unless_refused}
use Rattle.refusals.proofs.Laws.{unless_passed, unless_ends, ends_refusal}
use Rattle.board_words.specs.Words.{kind_of, payload_of, word_at}
use Rattle.board.specs.Board.{element_count}
use Rattle.board_short_read.specs.Reading.{shorts_test}
use Rattle.board_short_read.proofs.Tests.{each_accepted, all_accepted}
use Rattle.board_short.specs.ShortBoard.{short_count_word, short_file_size, pack_short_test, mark_in, short_spare_in}
use Rattle.board_short.specs.ShortBoard.{short_claim_in, short_count_test, unpack_short_test, unpack_short_answer}
use Rattle.board_short.specs.ShortBoard.{IsShortBoard, ReadsOn, short_count_in, short_batches_in}

-- ---- the writer

-- what its acceptance says of taps, claim and the destination's length
pub record IsPacked (taps claim : List ℕ) (size k : ℕ) : Type 0 where
  pub permitted : IsPermitted k
  pub taps_size : length taps ≡ tap_words k
  pub size_is : size ≡ short_file_size taps claim
  pub claim_canonical : AllCanonical claim
  pub taps_canonical : AllCanonical taps

pub pack_accepted : (taps claim : List ℕ) (size : ℕ) → pack_short_test taps claim size ≡ Ok tt
    → IsPacked taps claim size (tap_word_batches (length taps))
unfolding pack_short_test
pack_accepted taps claim size e =
    let a = passed (is_tap_length most_batches (length taps)) TapLength _ e in
    let b = passed (eqb size (short_file_size taps claim)) DestinationLength _ a.1 in
    let c = passed (canonical_words claim) (ClaimWord (first_bad claim)) _ b.1 in
    let d = passed (canonical_words taps) (TapWord (first_bad taps)) _ c.1 in
    let t = tap_length_sound most_batches (length taps) a.0 in
    record {
      permitted = t.1;
      taps_size = t.0;
      size_is = eqb-true _ _ b.0;
      claim_canonical = good_test claim c.0;
      taps_canonical = good_test taps d.0;
    }

pub pack_complete : (taps claim : List ℕ) (size k : ℕ) → IsPacked taps claim size k
    → pack_short_test taps claim size ≡ Ok tt
unfolding pack_short_test
pack_complete taps claim size k h =
    let t = tap_length_complete most_batches (length taps) k h.taps_size h.permitted in
    rw (t.0, eq-eqb _ _ h.size_is, test_good claim h.claim_canonical, test_good taps h.taps_canonical)

-- ---- word 0

-- it is accepted exactly where it is the count word of a permitted k
pub count_accepted : (w : ℕ) → short_count_test w ≡ Ok tt
    → (w ≡ short_count_word (short_count_in w)) × IsPermitted (short_count_in w)
unfolding short_count_test
count_accepted w e =
    let a = passed (eqb (kind_of w) 0) (WrongKind 0) _ e in
    let b = passed (eqb (mark_in w) 1) (WrongValue 0) _ a.1 in
    let c = passed (eqb (short_spare_in w) 0) (WrongValue 0) _ b.1 in
    let d = passed (permitted most_batches (short_count_in w)) (WrongValue 0) _ c.1 in
    let word : w ≡ short_count_word (short_count_in w) = omega (
      arith,
      eqb-true (kind_of w) 0 a.0,
      eqb-true (mark_in w) 1 b.0,
      eqb-true (short_spare_in w) 0 c.0,
    ) in
    (word, permitted_sound most_batches (short_count_in w) d.0)

-- bits 20 to 29 are the mark alone, or mark or spare bits are refused
pub marked : (w : ℕ) → payload_of w / 2 ^ 20 ≡ 2 ^ 9 → (mark_in w ≡ 1) × (short_spare_in w ≡ 0)
marked w e = (omega (arith, e), omega (arith, e))

pub unmarked : (w : ℕ) (rest o : Answer) → (payload_of w / 2 ^ 20 ≡ 2 ^ 9 → ⊥) → o ≡ Err (WrongValue 0)
    → o ≡ unless (eqb (mark_in w) 1) (WrongValue 0) (unless (eqb (short_spare_in w) 0) (WrongValue 0) rest)
unmarked w rest o n e = go (ℕ_discrete (mark_in w) 1)
  where
    go : Dec (mark_in w ≡ 1)
        → o ≡ unless (eqb (mark_in w) 1) (WrongValue 0) (unless (eqb (short_spare_in w) 0) (WrongValue 0) rest)
    go (no h) = unless_refused _ (ne_eqb _ _ h) e
    go (yes h) =
        let spare : short_spare_in w ≡ 0 → ⊥ = λ z. n (omega (arith, h, z)) in
        unless_passed _ (eq-eqb _ _ h) (unless_refused _ (ne_eqb _ _ spare) e)

pub count_complete : (k : ℕ) → IsPermitted k
    → (short_count_in (short_count_word k) ≡ k) × (short_count_test (short_count_word k) ≡ Ok tt)
unfolding short_count_test
count_complete k p =
    let k-is : short_count_in (short_count_word k) ≡ k = omega (arith, p.high) in
    let kind : kind_of (short_count_word k) ≡ 0 = omega (arith, p.high) in
    let mark : mark_in (short_count_word k) ≡ 1 = omega (arith, p.high) in
    let spare : short_spare_in (short_count_word k) ≡ 0 = omega (arith, p.high) in
    let right = ap (permitted most_batches) k-is ∙ permitted_complete most_batches k p in
    (k-is, rw (eq-eqb _ _ kind, eq-eqb _ _ mark, eq-eqb _ _ spare, right))

-- so of a file that begins with one
pub counts : (file : List ℕ) (k : ℕ) → word_at file 0 ≡ short_count_word k → IsPermitted k
    → (short_batches_in file ≡ k) × (short_count_test (word_at file 0) ≡ Ok tt)
unfolding short_batches_in
counts file k w p = let c = count_complete k p in (ap short_count_in w ∙ c.0, ap short_count_test w ∙ c.1)

-- as it is read: w is word 0, t what its test answered, k what it counts
module _ (file : List ℕ) {w : ℕ} (is : w ≡ word_at file 0) where
  pub word_tested : {t a : Answer} → t ≡ short_count_test w → t ≡ a → short_count_test (word_at file 0) ≡ a
  word_tested test e = sym (test ∙ ap short_count_test is) ∙ e

  pub word_counts : {k : ℕ} → k ≡ short_count_in w → short_batches_in file ≡ k
  unfolding short_batches_in
  word_counts count = ap short_count_in (sym is) ∙ sym count

-- what it is refused for: its kind, or that it is no such word
pub data CountFault (w : ℕ) (r : Refusal) : Type 0 where
  kind : (kind_of w ≡ 0 → ⊥) → r ≡ WrongKind 0 → CountFault w r
  value : kind_of w ≡ 0 → ((k : ℕ) → IsPermitted k → w ≡ short_count_word k → ⊥) → r ≡ WrongValue 0
      → CountFault w r

pub count_faulty : (w : ℕ) (r : Refusal) → short_count_test w ≡ Err r → CountFault w r
unfolding short_count_test
count_faulty w r e = go (ℕ_discrete (kind_of w) 0)
  where
    none : (k : ℕ) → IsPermitted k → w ≡ short_count_word k → ⊥
    none k p q = not_accepted r (sym e ∙ ap short_count_test q ∙ (count_complete k p).1)

    Q : Refusal → Type 0
    Q s = s ≡ WrongValue 0

    go : Dec (kind_of w ≡ 0) → CountFault w r
    go (no n) = kind n (refused_same (sym e ∙ rw (ne_eqb _ _ n)))
    go (yes z) =
        value z none
        (ends_refusal Q _ r
        (unless_ends Q (eqb (mark_in w) 1) (WrongValue 0) _ (λ a. refl) λ a.
        unless_ends Q (eqb (short_spare_in w) 0) (WrongValue 0) _ (λ b. refl) λ b.
        unless_ends Q (permitted most_batches (short_count_in w)) (WrongValue 0) _ (λ c. refl) λ c. tt)
        (rw (eq-eqb _ _ z) at e))

pub count_fault_refused : (w : ℕ) (r : Refusal) → CountFault w r → short_count_test w ≡ Err r
unfolding short_count_test
count_fault_refused w r fault = go (short_count_test w) refl
  where
    same : (s : Refusal) → CountFault w s → CountFault w r → s ≡ r
    same s (kind n e) (kind m f) = e ∙ sym f
    same s (kind n e) (value z m f) = absurd (n z)
    same s (value z n e) (kind m f) = absurd (m z)
    same s (value z n e) (value y m f) = e ∙ sym f

    accepted : short_count_test w ≡ Ok tt → CountFault w r → ⊥
    accepted a (kind n e) = n (eqb-true _ _ (passed (eqb (kind_of w) 0) (WrongKind 0) _ a).0)
    accepted a (value z n e) = let c = count_accepted w a in n (short_count_in w) c.1 c.0

    go : (t : Answer) → short_count_test w ≡ t → short_count_test w ≡ Err r
    go (Ok _) a = absurd (accepted a fault)
    go (Err s) a = a ∙ ap Err (same s (count_faulty w s a) fault)

-- ---- the reader

-- its tests from the destination's length on
abbrev pub from_room : List ℕ → ℕ → Answer
from_room file size =
    unless (eqb size (tap_words (short_batches_in file))) DestinationLength
    (shorts_test file 1 (element_count (short_batches_in file)))

-- once word 0 and the destination's length have passed, the elements decide
pub unpack_elements : (file : List ℕ) (size k : ℕ) → ReadsOn file size k
    → unpack_short_test file size ≡ shorts_test file 1 (element_count k)
unfolding unpack_short_test
unpack_elements file size k h =
    let c = counts file k h.word h.permitted in
    rw (le-leb _ _ h.four, c.1, c.0, eq-eqb _ _ h.room)

pub unpack_accepted : (file : List ℕ) (size : ℕ) → unpack_short_test file size ≡ Ok tt
    → IsShortBoard file (short_batches_in file) × (size ≡ tap_words (short_batches_in file))
unfolding unpack_short_test short_batches_in
unpack_accepted file size e =
    let a = passed (leb 4 (length file)) FileLength _ e in
    let b = both_accepted (short_count_test (word_at file 0)) _ a.1 in
    let c = passed (eqb size (tap_words (short_batches_in file))) DestinationLength _ b.1 in
    let w = count_accepted (word_at file 0) b.0 in
    let all = each_accepted file 1 (element_count (short_batches_in file)) c.1 in (
      record {
        permitted = w.1;
        four = leb-true _ _ a.0;
        word = w.0;
        elements = all.elements;
        ends = all.ends;
      },
      eqb-true _ _ c.0,
    )

-- its number of batches is the one that is read
pub batches_is : (file : List ℕ) (k : ℕ) → IsShortBoard file k → short_batches_in file ≡ k
batches_is file k h = (counts file k h.word h.permitted).0

pub reads_on : (file : List ℕ) (k : ℕ) → IsShortBoard file k → ReadsOn file (tap_words k) k
reads_on file k h = record { four = h.four; permitted = h.permitted; word = h.word; room = refl }

pub unpack_complete : (file : List ℕ) (k : ℕ) → IsShortBoard file k → unpack_short_test file (tap_words k) ≡ Ok tt
unpack_complete file k h =
    unpack_elements file (tap_words k) k (reads_on file k h)
    ∙ all_accepted file 1 (element_count k) (record { elements = h.elements; ends = h.ends })

-- a short file is refused with 8 where the destination has another length than its taps
pub unpack_no_room : (file : List ℕ) (size k : ℕ) → IsShortBoard file k → (size ≡ tap_words k → ⊥)
    → unpack_short_test file size ≡ Err DestinationLength
unfolding unpack_short_test
unpack_no_room file size k h n =
    let c = counts file k h.word h.permitted in
    rw (le-leb 4 (length file) h.four, c.1, c.0, ne_eqb _ _ n)

-- what is returned: the claim, or the refusal
pub unpack_returns : (file : List ℕ) (size : ℕ) → unpack_short_test file size ≡ Ok tt
    → unpack_short_answer file size ≡ Ok (short_claim_in file)
unfolding unpack_short_answer
unpack_returns file size e = rw e

pub unpack_refuses : (file : List ℕ) (size : ℕ) (r : Refusal) → unpack_short_test file size ≡ Err r
    → unpack_short_answer file size ≡ Err r
unfolding unpack_short_answer
unpack_refuses file size r e = rw e

-- and conversely
pub returned : (file : List ℕ) (size : ℕ) (d : List ℕ) → unpack_short_answer file size ≡ Ok d
    → (unpack_short_test file size ≡ Ok tt) × (short_claim_in file ≡ d)
unfolding unpack_short_answer
returned file size d e = value_accepted (unpack_short_test file size) (short_claim_in file) d e
