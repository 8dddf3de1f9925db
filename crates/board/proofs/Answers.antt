-- What Pack's and Unpack's tests say where they accept, and that they accept what passes each of them.
-- Assumes nothing.
use mathlib.Core.Path.{◌≡◌, refl, sym, ap, ◌∙◌}
use mathlib.Core.List.{List}
use Prim.Native.Nat.{ℕ, ◌+◌, ◌*◌, ◌≤◌}
use native.Mathlib.Omega.{arith}
use borrow.Author.Tests.{eq-eqb, ne_eqb, eqb-true, le-leb}
use lib.Dec.{eqb, leb}
use lib.ListN.{length}
use Rattle.std.specs.Prelude.{Ok, Err}
use Rattle.field_words.specs.Words.{AllCanonical, first_bad, canonical_words}
use Rattle.field_words.proofs.Laws.{test_good, good_test}
use Rattle.numbers.specs.Numbers.{IsPermittedTo, permitted, tap_word_batches, is_tap_length}
use Rattle.numbers.proofs.Laws.{permitted_sound, permitted_complete, tap_length_sound, tap_length_complete}
use Rattle.refusals.specs.Answers.{Answer}
use Rattle.refusals.specs.declared.Refusal.{Refusal}
use Rattle.refusals.specs.declared.Refusal.TheVariants.{TapLength, TapWord, DestinationLength, ClaimWord}
use Rattle.refusals.specs.declared.Refusal.TheVariants.{FileLength, WrongKind, WrongValue}
use Rattle.refusals.proofs.Laws.{passed, both_accepted, value_accepted, AnswerEnds, unless_ends, one_cause}
use Rattle.board_words.specs.Words.{kind_of, word_at}
use Rattle.board_words.specs.Elements.{elements_test}
use Rattle.board_words.proofs.Tests.{each_accepted, all_accepted}
use Rattle.board.specs.Board.{most_file_batches, count_word, file_size, pack_test}
use Rattle.board.specs.Board.{count_in, spare_in, batches_in, claim_in, count_test, unpack_test, unpack_answer, IsBoard}

-- ---- Pack

-- what its acceptance says of taps, claim and the destination's length
pub record IsPacked (taps claim : List ℕ) (size k : ℕ) : Type 0 where
  pub permitted : IsPermittedTo most_file_batches k
  pub taps_size : length taps ≡ 12 * k + 4
  pub size_is : size ≡ file_size k
  pub claim_canonical : AllCanonical claim
  pub taps_canonical : AllCanonical taps

pub pack_accepted : (taps claim : List ℕ) (size : ℕ) → pack_test taps claim size ≡ Ok tt
    → IsPacked taps claim size (tap_word_batches (length taps))
unfolding pack_test
pack_accepted taps claim size e =
    let a = passed (is_tap_length most_file_batches (length taps)) TapLength _ e in
    let b = passed (eqb size (file_size (tap_word_batches (length taps)))) DestinationLength _ a.1 in
    let c = passed (canonical_words claim) (ClaimWord (first_bad claim)) _ b.1 in
    let d = passed (canonical_words taps) (TapWord (first_bad taps)) _ c.1 in
    let t = tap_length_sound most_file_batches (length taps) a.0 in
    record {
      permitted = t.1;
      taps_size = t.0;
      size_is = eqb-true _ _ b.0;
      claim_canonical = good_test claim c.0;
      taps_canonical = good_test taps d.0;
    }

pub pack_complete : (taps claim : List ℕ) (size k : ℕ) → IsPacked taps claim size k
    → pack_test taps claim size ≡ Ok tt
unfolding pack_test
pack_complete taps claim size k h =
    let t = tap_length_complete most_file_batches (length taps) k h.taps_size h.permitted in
    let s = h.size_is ∙ sym (ap file_size t.1) in
    rw (t.0, eq-eqb _ _ s, test_good claim h.claim_canonical, test_good taps h.taps_canonical)

-- ---- word 0

-- word 0 is accepted exactly where it is the count word of a permitted k
pub count_accepted : (w : ℕ) → count_test w ≡ Ok tt
    → (w ≡ count_word (count_in w)) × IsPermittedTo most_file_batches (count_in w)
unfolding count_test
count_accepted w e =
    let a = passed (eqb (kind_of w) 0) (WrongKind 0) _ e in
    let b = passed (eqb (spare_in w) 0) (WrongValue 0) _ a.1 in
    let c = passed (permitted most_file_batches (count_in w)) (WrongValue 0) _ b.1 in
    let word : w ≡ count_word (count_in w) = omega (arith, eqb-true (kind_of w) 0 a.0, eqb-true (spare_in w) 0 b.0) in
    (word, permitted_sound most_file_batches (count_in w) c.0)

pub count_complete : (k : ℕ) → IsPermittedTo most_file_batches k
    → (count_in (count_word k) ≡ k) × (count_test (count_word k) ≡ Ok tt)
unfolding count_test
count_complete k p =
    let k-is : count_in (count_word k) ≡ k = omega (arith, p.high) in
    let kind : kind_of (count_word k) ≡ 0 = omega (arith, p.high) in
    let spare : spare_in (count_word k) ≡ 0 = omega (arith, p.high) in
    let right = ap (permitted most_file_batches) k-is ∙ permitted_complete most_file_batches k p in
    (k-is, rw (eq-eqb _ _ kind, eq-eqb _ _ spare, right))

-- as it is read: w is word 0, t what its test answered, k what it counts
module _ (file : List ℕ) {w : ℕ} (is : w ≡ word_at file 0) where
  pub word_tested : {t a : Answer} → t ≡ count_test w → t ≡ a → count_test (word_at file 0) ≡ a
  word_tested test e = sym (test ∙ ap count_test is) ∙ e

  pub word_counts : {k : ℕ} → k ≡ count_in w → batches_in file ≡ k
  unfolding batches_in
  word_counts count = ap count_in (sym is) ∙ sym count

-- it is refused for its kind, or else, where it is no such word, with 14
pub count_kind : (w : ℕ) → (kind_of w ≡ 0 → ⊥) → count_test w ≡ Err (WrongKind 0)
unfolding count_test
count_kind w n = rw (ne_eqb _ _ n)

pub count_value : (w : ℕ) → kind_of w ≡ 0 → ((k : ℕ) → IsPermittedTo most_file_batches k → w ≡ count_word k → ⊥)
    → count_test w ≡ Err (WrongValue 0)
unfolding count_test
count_value w z n = one_cause (WrongValue 0) (count_test w) ends none
  where
    none : count_test w ≡ Ok tt → ⊥
    none e = let c = count_accepted w e in n (count_in w) c.1 c.0

    Q : Refusal → Type 0
    Q s = s ≡ WrongValue 0

    ends : AnswerEnds Q (count_test w)
    ends =
        rw (eq-eqb _ _ z)
        (unless_ends Q (eqb (spare_in w) 0) (WrongValue 0) _ (λ a. refl) λ a.
        unless_ends Q (permitted most_file_batches (count_in w)) (WrongValue 0) _ (λ b. refl) λ b. tt)

-- ---- Unpack

-- once word 0 and the lengths have passed, the elements decide
pub unpack_elements : (file : List ℕ) (size : ℕ) → 4 ≤ length file → count_test (word_at file 0) ≡ Ok tt
    → length file ≡ file_size (batches_in file) → size ≡ 12 * batches_in file + 4
    → unpack_test file size ≡ elements_test file 1 (12 * batches_in file + 8)
unfolding unpack_test
unpack_elements file size h e l s = rw (le-leb _ _ h, e, eq-eqb _ _ l, eq-eqb _ _ s)

pub unpack_accepted : (file : List ℕ) (size : ℕ) → unpack_test file size ≡ Ok tt
    → IsBoard file (batches_in file) × (size ≡ 12 * batches_in file + 4)
unfolding unpack_test batches_in
unpack_accepted file size e =
    let a = passed (leb 4 (length file)) FileLength _ e in
    let b = both_accepted (count_test (word_at file 0)) _ a.1 in
    let c = passed (eqb (length file) (file_size (batches_in file))) FileLength _ b.1 in
    let d = passed (eqb size (12 * batches_in file + 4)) DestinationLength _ c.1 in
    let w = count_accepted (word_at file 0) b.0 in (
      record {
        permitted = w.1;
        word = w.0;
        size = eqb-true _ _ c.0;
        elements = each_accepted file 1 _ d.1;
      },
      eqb-true _ _ d.0,
    )

-- its number of batches is the one that is read
pub batches_is : (file : List ℕ) (k : ℕ) → IsBoard file k → batches_in file ≡ k
unfolding batches_in
batches_is file k h = ap count_in h.word ∙ (count_complete k h.permitted).0

pub unpack_complete : (file : List ℕ) (k : ℕ) → IsBoard file k → unpack_test file (12 * k + 4) ≡ Ok tt
unpack_complete file k h =
    let b = batches_is file k h in
    let count = ap count_test h.word ∙ (count_complete k h.permitted).1 in
    unpack_elements file (12 * k + 4) (omega (arith, h.size)) count (rw b h.size) (rw b)
    ∙ rw b (all_accepted file 1 (12 * k + 8) h.elements)

-- a board file is refused with 8 where the destination has another length than its taps
pub unpack_no_room : (file : List ℕ) (size k : ℕ) → IsBoard file k → (size ≡ 12 * k + 4 → ⊥)
    → unpack_test file size ≡ Err DestinationLength
unfolding unpack_test
unpack_no_room file size k h n =
    let b = batches_is file k h in
    let count = ap count_test h.word ∙ (count_complete k h.permitted).1 in
    rw (le-leb 4 (length file) (omega (arith, h.size)), count, b, eq-eqb _ _ h.size, ne_eqb _ _ n)

-- what is returned: the claim, or the refusal
pub unpack_returns : (file : List ℕ) (size : ℕ) → unpack_test file size ≡ Ok tt
    → unpack_answer file size ≡ Ok (claim_in file)
unfolding unpack_answer
unpack_returns file size e = rw e

pub unpack_refuses : (file : List ℕ) (size : ℕ) (r : Refusal) → unpack_test file size ≡ Err r
    → unpack_answer file size ≡ Err r
unfolding unpack_answer
unpack_refuses file size r e = rw e

-- and conversely
pub returned : (file : List ℕ) (size : ℕ) (d : List ℕ) → unpack_answer file size ≡ Ok d
    → (unpack_test file size ≡ Ok tt) × (claim_in file ≡ d)
unfolding unpack_answer
returned file size d e = value_accepted (unpack_test file size) (claim_in file) d e
