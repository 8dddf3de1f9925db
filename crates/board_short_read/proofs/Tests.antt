-- What the tests of an element of the short edition come to: by kind and length, and what acceptance says.
-- Assumes nothing.
use mathlib.Core.Path.{◌≡◌, refl, sym, ap, ◌∙◌}
use mathlib.Core.Bool.{Bool, true, false, true≢false}
use mathlib.Core.List.{List}
use Prim.Native.Nat.{ℕ, zero, suc, ◌+◌, ◌*◌, ◌-◌, ◌^◌, ◌≤◌, ◌<◌}
use native.Mathlib.Decide.{ℕ_discrete}
use native.Mathlib.Nat.{zero-add, suc-add}
use native.Mathlib.Omega.{arith}
use borrow.Author.Tests.{eq-eqb, ne_eqb, eqb-true, eqb-false, le-leb, lt-leb, leb-true, leb-false, ltb-true}
use borrow.Author.Tests.{ltb-false}
use lib.Dec.{eqb, ltb, leb}
use lib.ListN.{length}
use Rattle.std.specs.Prelude.{Ok, Err}
use Rattle.lists.specs.Lists.{choose}
use Rattle.field.specs.Field.{P}
use Rattle.refusals.specs.Answers.{Answer, unless, after}
use Rattle.refusals.specs.declared.Refusal.{Refusal}
use Rattle.refusals.specs.declared.Refusal.TheVariants.{FileLength, WrongKind, WrongValue, LongElement}
use Rattle.refusals.proofs.Laws.{not_accepted, refused_same, passed, both_accepted}
use Rattle.refusals.proofs.Laws.{AnswerEnds, unless_ends, ends_refusal}
use Rattle.board_words.specs.Words.{kind_of, payload_of, word_at}
use Rattle.board_words.specs.Elements.{element_at, element_test}
use Rattle.board_words.proofs.Tests as elements
use Rattle.board_short_read.specs.Reading.{is_whole, short_at, next_word, three_test, short_test, first_word}
use Rattle.board_short_read.specs.Reading.{shorts_test}
use Rattle.board_short_read.specs.Reading.{IsShortElement, one, three, ElementFault, no_first, first_kind, no_second}
use Rattle.board_short_read.specs.Reading.{second_kind, no_third, third_kind, too_large, needless}

-- ---- the tests of three words from the third on, and from the second on
abbrev pub from_third : List ℕ → ℕ → Answer
from_third file j =
    unless (is_whole file (j + 2)) FileLength
    (unless (eqb (kind_of (word_at file (j + 2))) 3) (WrongKind (j + 2))
    (unless (ltb (element_at file j) P) (WrongValue j)
    (unless (leb (2 ^ 30) (element_at file j)) (LongElement j)
    (Ok tt))))

abbrev pub from_second : List ℕ → ℕ → Answer
from_second file j =
    unless (is_whole file (j + 1)) FileLength
    (unless (eqb (kind_of (word_at file (j + 1))) 2) (WrongKind (j + 1))
    (from_third file j))

-- ---- by the kind of the first word: 1 is not 3
pub not_three : {k : ℕ} → k ≡ 1 → eqb k 3 ≡ false
not_three e = rw e

module _ (file : List ℕ) (j : ℕ) (e : kind_of (word_at file j) ≡ 3) where
  pub one_at : short_at file j ≡ payload_of (word_at file j)
  unfolding short_at
  one_at = rw (eq-eqb _ _ e)

  pub one_next : next_word file j ≡ j + 1
  unfolding next_word
  one_next = rw (eq-eqb _ _ e)

  pub one_test : 4 * j + 4 ≤ length file → short_test file j ≡ Ok tt
  unfolding short_test
  one_test h = rw (le-leb _ _ h, eq-eqb _ _ e)

module _ (file : List ℕ) (j : ℕ) (e : eqb (kind_of (word_at file j)) 3 ≡ false) where
  pub three_at : short_at file j ≡ element_at file j
  unfolding short_at
  three_at = rw e

  pub three_next : next_word file j ≡ j + 3
  unfolding next_word
  three_next = rw e

  pub rest_test : 4 * j + 4 ≤ length file → short_test file j ≡ three_test file j
  unfolding short_test
  rest_test h = rw (le-leb _ _ h, e)

  -- the tests of the full edition's element, and what follows them
  more : (a b c d : Bool) (p q r s : Refusal) (rest : Answer)
      → unless a p (unless b q (unless c r (unless d s rest)))
      ≡ after (unless a p (unless b q (unless c r (unless d s (Ok tt))))) rest
  more true true true true p q r s rest = refl
  more true true true false p q r s rest = refl
  more true true false d p q r s rest = refl
  more true false c d p q r s rest = refl
  more false b c d p q r s rest = refl

  pub three_test_lem : 4 * j + 12 ≤ length file
      → short_test file j
      ≡ after (element_test file j) (unless (leb (2 ^ 30) (element_at file j)) (LongElement j) (Ok tt))
  unfolding short_test three_test element_test
  three_test_lem h =
      let first = le-leb (4 * j + 4) (length file) (omega arith) in
      let second = le-leb (4 * (j + 1) + 4) (length file) (omega arith) in
      let third = le-leb (4 * (j + 2) + 4) (length file) (omega arith) in
      rw (first, e, second, third)
      (more (eqb (kind_of (word_at file j)) 1) (eqb (kind_of (word_at file (j + 1))) 2)
      (eqb (kind_of (word_at file (j + 2))) 3) (ltb (element_at file j) P) (WrongKind j) (WrongKind (j + 1))
      (WrongKind (j + 2)) (WrongValue j) _)

-- ---- acceptance
pub accepts : (file : List ℕ) (j : ℕ) → IsShortElement file j → short_test file j ≡ Ok tt
accepts file j (one h e) = one_test file j e h
accepts file j (three h is large) =
    three_test_lem file j (not_three is.high) h ∙ rw (elements.accepts file j is, le-leb _ _ large)

pub first_whole : (file : List ℕ) (j : ℕ) → short_test file j ≡ Ok tt → 4 * j + 4 ≤ length file
unfolding short_test
first_whole file j e = leb-true _ _ (passed _ _ _ e).0

-- three words are there where all of them have passed
wholly : (file : List ℕ) (j : ℕ) → eqb (kind_of (word_at file j)) 3 ≡ false → short_test file j ≡ Ok tt
    → 4 * j + 12 ≤ length file
unfolding three_test
wholly file j k e =
    let rest = sym (rest_test file j k (first_whole file j e)) ∙ e in
    let b = passed (eqb (kind_of (word_at file j)) 1) (WrongKind j) _ rest in
    let c = passed (is_whole file (j + 1)) FileLength _ b.1 in
    let d = passed (eqb (kind_of (word_at file (j + 1))) 2) (WrongKind (j + 1)) _ c.1 in
    let f = passed (is_whole file (j + 2)) FileLength _ d.1 in
    let l = leb-true (4 * (j + 2) + 4) (length file) f.0 in
    omega arith

pub accepted : (file : List ℕ) (j : ℕ) → short_test file j ≡ Ok tt → IsShortElement file j
accepted file j e = go (ℕ_discrete (kind_of (word_at file j)) 3)
  where
    go : Dec (kind_of (word_at file j) ≡ 3) → IsShortElement file j
    go (yes k) = one (first_whole file j e) k
    go (no k) =
        let other = ne_eqb _ _ k in
        let h = wholly file j other e in
        let a = both_accepted _ _ (sym (three_test_lem file j other h) ∙ e) in
        three h (elements.accepted file j a.0) (leb-true _ _ (passed _ _ _ a.1).0)

-- three words, where the first is not of kind 3
pub of_three : (file : List ℕ) (j : ℕ) → eqb (kind_of (word_at file j)) 3 ≡ false → IsShortElement file j
    → (4 * j + 12 ≤ length file) × (element_at file j < P)
of_three file j k (one h e) = absurd (true≢false (sym (eq-eqb _ _ e) ∙ k))
of_three file j k (three h is large) = (h, is.value)

-- ---- refusal: one fault or another, and each is refused
module _ (file : List ℕ) (j : ℕ) where
  -- the words that are there
  first_there : 4 * j + 4 ≤ length file → is_whole file j ≡ true
  first_there h = le-leb _ _ h

  second_there : 4 * j + 8 ≤ length file → is_whole file (j + 1) ≡ true
  second_there h = le-leb (4 * (j + 1) + 4) (length file) (omega arith)

  third_there : 4 * j + 12 ≤ length file → is_whole file (j + 2) ≡ true
  third_there h = le-leb (4 * (j + 2) + 4) (length file) (omega arith)

  third_faults : 4 * j + 8 ≤ length file → kind_of (word_at file j) ≡ 1 → kind_of (word_at file (j + 1)) ≡ 2
      → AnswerEnds (ElementFault file j) (from_third file j)
  third_faults two one-is two_is =
      let Q = ElementFault file j in
      unless_ends Q (is_whole file (j + 2)) FileLength _
      (λ d. no_third two one-is two_is (omega (arith, leb-false (4 * (j + 2) + 4) (length file) d)) refl) λ d.
      let all : 4 * j + 12 ≤ length file = omega (arith, leb-true (4 * (j + 2) + 4) (length file) d) in
      unless_ends Q (eqb (kind_of (word_at file (j + 2))) 3) (WrongKind (j + 2)) _
      (λ f. third_kind all one-is two_is (eqb-false _ _ f) refl) λ f.
      let three-is = eqb-true (kind_of (word_at file (j + 2))) 3 f in
      unless_ends Q (ltb (element_at file j) P) (WrongValue j) _
      (λ g. too_large all one-is two_is three-is (ltb-false _ _ g) refl) λ g.
      unless_ends Q (leb (2 ^ 30) (element_at file j)) (LongElement j) _
      (λ k. needless all
      (record { high = one-is; middle = two_is; low = three-is; value = ltb-true _ _ g }) (leb-false _ _ k) refl)
      λ k. tt

  second_faults : 4 * j + 4 ≤ length file → kind_of (word_at file j) ≡ 1
      → AnswerEnds (ElementFault file j) (from_second file j)
  second_faults h one-is =
      let Q = ElementFault file j in
      unless_ends Q (is_whole file (j + 1)) FileLength _
      (λ b. no_second h one-is (omega (arith, leb-false (4 * (j + 1) + 4) (length file) b)) refl) λ b.
      let two : 4 * j + 8 ≤ length file = omega (arith, leb-true (4 * (j + 1) + 4) (length file) b) in
      unless_ends Q (eqb (kind_of (word_at file (j + 1))) 2) (WrongKind (j + 1)) _
      (λ c. second_kind two one-is (eqb-false _ _ c) refl) λ c.
      third_faults two one-is (eqb-true _ _ c)

  three_faults : 4 * j + 4 ≤ length file → (kind_of (word_at file j) ≡ 3 → ⊥)
      → AnswerEnds (ElementFault file j) (three_test file j)
  unfolding three_test
  three_faults h other =
      unless_ends (ElementFault file j) (eqb (kind_of (word_at file j)) 1) (WrongKind j) (from_second file j)
      (λ a. first_kind h other (eqb-false _ _ a) refl) (λ a. second_faults h (eqb-true _ _ a))

  pub faulty : (r : Refusal) → short_test file j ≡ Err r → ElementFault file j r
  unfolding short_test
  faulty r e =
      ends_refusal Q (short_test file j) r
      (unless_ends Q (is_whole file j) FileLength _ (λ a. no_first (leb-false _ _ a) refl) λ a.
      by_kind (leb-true _ _ a) (eqb (kind_of (word_at file j)) 3) refl)
      e
    where
      Q : Refusal → Type 0
      Q = ElementFault file j

      by_kind : 4 * j + 4 ≤ length file → (b : Bool) → eqb (kind_of (word_at file j)) 3 ≡ b
          → AnswerEnds Q (choose b (Ok tt) (three_test file j))
      by_kind h true e = tt
      by_kind h false e = three_faults h (eqb-false _ _ e)

  pub fault_refused : (r : Refusal) → ElementFault file j r → short_test file j ≡ Err r
  unfolding short_test three_test
  fault_refused r (no_first h e) = rw (lt-leb _ _ h, e)
  fault_refused r (first_kind h n m e) = rw (le-leb _ _ h, ne_eqb _ _ n, ne_eqb _ _ m, e)
  fault_refused r (no_second h a l e) =
      rw (le-leb _ _ h, not_three a, eq-eqb _ _ a, lt-leb (4 * (j + 1) + 4) (length file) (omega arith), e)
  fault_refused r (second_kind h a n e) =
      rw (first_there (omega arith), not_three a, eq-eqb _ _ a, second_there h, ne_eqb _ _ n, e)
  fault_refused r (no_third h a b l e) = rw (
    first_there (omega arith),
    not_three a,
    eq-eqb _ _ a,
    second_there h,
    eq-eqb _ _ b,
    lt-leb (4 * (j + 2) + 4) (length file) (omega arith),
    e,
  )
  fault_refused r (third_kind h a b n e) = rw (
    first_there (omega arith),
    not_three a,
    eq-eqb _ _ a,
    second_there (omega arith),
    eq-eqb _ _ b,
    third_there h,
    ne_eqb _ _ n,
    e,
  )
  fault_refused r (too_large h a b c large e) =
      three_test_lem file j (not_three a) h ∙ rw (elements.too_large file j a b c large, e)
  fault_refused r (needless h is low e) =
      three_test_lem file j (not_three is.high) h ∙ rw (elements.accepts file j is, lt-leb _ _ low, e)

-- the word after an accepted element is within the file, or just after it
pub next_within : (file : List ℕ) (j : ℕ) → IsShortElement file j → 4 * next_word file j ≤ length file
next_within file j (one h e) = rw (one_next file j e) (omega arith)
next_within file j (three h is large) =
    rw (three_next file j (not_three is.high)) (omega arith)

-- one word, or three
pub next_most : (file : List ℕ) (j : ℕ) → next_word file j ≤ j + 3
unfolding next_word
next_most file j = go (eqb (kind_of (word_at file j)) 3)
  where
    go : (b : Bool) → choose b (j + 1) (j + 3) ≤ j + 3
    go true = omega arith
    go false = omega arith

pub next_least : (file : List ℕ) (j : ℕ) → j < next_word file j
unfolding next_word
next_least file j = go (eqb (kind_of (word_at file j)) 3)
  where
    go : (b : Bool) → j < choose b (j + 1) (j + 3)
    go true = omega arith
    go false = omega arith

-- ---- element after element

-- none begins before the first
pub first_least : (file : List ℕ) (j i : ℕ) → j ≤ first_word file j i
unfolding first_word
first_least file j zero = omega arith
first_least file j (suc i) = omega (arith, next_least file j, first_least file (next_word file j) i)

-- the first word of the next element, and of those after the first n
pub first_next : (file : List ℕ) (j i : ℕ) → first_word file j (i + 1) ≡ next_word file (first_word file j i)
unfolding first_word
first_next file j zero = refl
first_next file j (suc i) = ap (first_word file j) (suc-add i 1) ∙ first_next file (next_word file j) i

pub first_add : (file : List ℕ) (j n i : ℕ) → first_word file j (n + i) ≡ first_word file (first_word file j n) i
unfolding first_word
first_add file j zero i = ap (first_word file j) (zero-add i)
first_add file j (suc n) i = ap (first_word file j) (suc-add n i) ∙ first_add file (next_word file j) n i

-- what is left of n elements after one that is accepted, and after the last
pub tests_next : (file : List ℕ) (j n : ℕ) (t : Answer) → 1 ≤ n → t ≡ short_test file j → t ≡ Ok tt
    → shorts_test file (next_word file j) (n - 1) ≡ shorts_test file j n
unfolding shorts_test
tests_next file j zero t h e a = absurd (omega arith)
tests_next file j (suc n) t h e a =
    let k : suc n - 1 ≡ n = omega arith in
    ap (shorts_test file (next_word file j)) k ∙ rw (sym e ∙ a)

pub tests_stop : (file : List ℕ) (j n : ℕ) (t : Answer) (r : Refusal) → 1 ≤ n → t ≡ short_test file j → t ≡ Err r
    → t ≡ shorts_test file j n
unfolding shorts_test
tests_stop file j zero t r h e a = absurd (omega arith)
tests_stop file j (suc n) t r h e a = a ∙ rw (sym e ∙ a)

pub tests_end : (file : List ℕ) (j n : ℕ) → n ≡ 0
    → unless (eqb (4 * j) (length file)) FileLength (Ok tt) ≡ shorts_test file j n
unfolding shorts_test
tests_end file j n e = rw e

-- all are accepted exactly where each is, and no byte stands after the last
pub record AllShort (file : List ℕ) (j n : ℕ) : Type 0 where
  pub elements : (i : ℕ) → i < n → IsShortElement file (first_word file j i)
  pub ends : 4 * first_word file j n ≡ length file

pub first_and_later : {file : List ℕ} {j n : ℕ} → IsShortElement file j
    → ((i : ℕ) → i < n → IsShortElement file (first_word file (next_word file j) i)) → (i : ℕ)
    → i < suc n → IsShortElement file (first_word file j i)
unfolding first_word
first_and_later first later zero h = first
first_and_later first later (suc i) h = later i (omega arith)

pub each_accepted : (file : List ℕ) (j n : ℕ) → shorts_test file j n ≡ Ok tt → AllShort file j n
unfolding first_word shorts_test
each_accepted file j zero e = record {
  elements = λ i h. absurd (omega arith);
  ends = eqb-true _ _ (passed (eqb (4 * j) (length file)) FileLength (Ok tt) e).0;
}
each_accepted file j (suc n) e =
    let a = both_accepted (short_test file j) (shorts_test file (next_word file j) n) e in
    let rest = each_accepted file (next_word file j) n a.1 in
    record { elements = first_and_later (accepted file j a.0) rest.elements; ends = rest.ends }

pub all_accepted : (file : List ℕ) (j n : ℕ) → AllShort file j n → shorts_test file j n ≡ Ok tt
unfolding first_word shorts_test
all_accepted file j zero h = rw (eq-eqb _ _ h.ends)
all_accepted file j (suc n) h =
    rw (accepts file j (h.elements 0 (omega arith)))
    (all_accepted file (next_word file j) n
    (record { elements = λ i l. h.elements (suc i) (omega arith); ends = h.ends }))

-- the first that is refused decides, and bytes after the last are refused
pub first_refused : (file : List ℕ) (j n i : ℕ) (r : Refusal) → i < n
    → ((m : ℕ) → m < i → IsShortElement file (first_word file j m)) → short_test file (first_word file j i) ≡ Err r
    → shorts_test file j n ≡ Err r
unfolding first_word shorts_test
first_refused file j zero i r h b e = absurd (omega arith)
first_refused file j (suc n) zero r h b e = rw e
first_refused file j (suc n) (suc i) r h b e =
    rw (accepts file j (b 0 (omega arith)))
    (first_refused file (next_word file j) n i r (omega arith) (λ m l. b (suc m) (omega arith)) e)

pub bytes_after : (file : List ℕ) (j n : ℕ) → ((m : ℕ) → m < n → IsShortElement file (first_word file j m))
    → (4 * first_word file j n ≡ length file → ⊥) → shorts_test file j n ≡ Err FileLength
unfolding first_word shorts_test
bytes_after file j zero b e = rw (ne_eqb _ _ e)
bytes_after file j (suc n) b e =
    rw (accepts file j (b 0 (omega arith)))
    (bytes_after file (next_word file j) n (λ m l. b (suc m) (omega arith)) e)

-- and one of the two it is
pub data Stops (file : List ℕ) (j n : ℕ) (r : Refusal) : Type 0 where
  element : (i : ℕ) → i < n → ((m : ℕ) → m < i → IsShortElement file (first_word file j m))
      → short_test file (first_word file j i) ≡ Err r → Stops file j n r
  tail : ((m : ℕ) → m < n → IsShortElement file (first_word file j m)) → (4 * first_word file j n ≡ length file → ⊥)
      → r ≡ FileLength → Stops file j n r

pub stops : (file : List ℕ) (j n : ℕ) (r : Refusal) → shorts_test file j n ≡ Err r → Stops file j n r
unfolding first_word shorts_test
stops file j zero r e = go (ℕ_discrete (4 * j) (length file))
  where
    go : Dec (4 * j ≡ length file) → Stops file j zero r
    go (yes h) = absurd (not_accepted r (sym e ∙ rw (eq-eqb _ _ h)))
    go (no h) = tail (λ m l. absurd (omega arith)) h (refused_same (sym e ∙ rw (ne_eqb _ _ h)))
stops file j (suc n) r e = go (short_test file j) refl (λ h. stops file (next_word file j) n r h)
  where
    later : IsShortElement file j → Stops file (next_word file j) n r → Stops file j (suc n) r
    later is (element i l b q) = element (suc i) (omega arith) (first_and_later is b) q
    later is (tail b q f) = tail (first_and_later is b) q f

    go : (t : Answer) → short_test file j ≡ t
        → (shorts_test file (next_word file j) n ≡ Err r → Stops file (next_word file j) n r)
        → Stops file j (suc n) r
    go (Ok _) a rest = later (accepted file j a) (rest (rw a at e))
    go (Err s) a rest =
        element 0 (omega arith) (λ m l. absurd (omega arith)) (a ∙ (rw a at e))
