-- What the tests of elements come to: acceptance says kinds and values, and a walk element by element ends at the first
-- that is refused.
-- Assumes nothing.
use mathlib.Core.Path.{◌≡◌, refl, sym, ap, ◌∙◌}
use mathlib.Core.List.{List}
use Prim.Native.Nat.{ℕ, zero, suc, ◌+◌, ◌*◌, ◌-◌, ◌<◌, ◌≤◌}
use native.Mathlib.Omega.{arith}
use borrow.Author.Tests.{eq-eqb, eqb-true, lt-ltb, le-ltb, ltb-true}
use Rattle.std.specs.Prelude.{Ok, Err}
use Rattle.field.specs.Field.{P}
use Rattle.refusals.specs.Answers.{Answer, after}
use Rattle.refusals.specs.declared.Refusal.{Refusal}
use Rattle.refusals.specs.declared.Refusal.TheVariants.{WrongValue}
use Rattle.refusals.proofs.Laws.{not_accepted, passed, both_accepted}
use Rattle.board_words.specs.Words.{kind_of, word_at}
use Rattle.board_words.specs.Elements.{element_at, element_test, elements_test, IsElement}

-- ---- one element
pub accepted : (file : List ℕ) (j : ℕ) → element_test file j ≡ Ok tt → IsElement file j
unfolding element_test
accepted file j e =
    let a = passed _ _ _ e in
    let b = passed _ _ _ a.1 in
    let c = passed _ _ _ b.1 in
    let d = passed _ _ _ c.1 in
    record {
      high = eqb-true _ _ a.0;
      middle = eqb-true _ _ b.0;
      low = eqb-true _ _ c.0;
      value = ltb-true _ _ d.0;
    }

pub accepts : (file : List ℕ) (j : ℕ) → IsElement file j → element_test file j ≡ Ok tt
unfolding element_test
accepts file j h = simp (eq-eqb _ _ h.high, eq-eqb _ _ h.middle, eq-eqb _ _ h.low, lt-ltb _ _ h.value)

-- three right kinds, and a value from p on
pub too_large : (file : List ℕ) (j : ℕ) → kind_of (word_at file j) ≡ 1 → kind_of (word_at file (j + 1)) ≡ 2
    → kind_of (word_at file (j + 2)) ≡ 3 → P ≤ element_at file j → element_test file j ≡ Err (WrongValue j)
unfolding element_test
too_large file j a b c h = simp (eq-eqb _ _ a, eq-eqb _ _ b, eq-eqb _ _ c, le-ltb _ _ h)

-- ---- element by element
pub tests_none : (file : List ℕ) (j : ℕ) → elements_test file j 0 ≡ Ok tt
unfolding elements_test
tests_none file j = refl

-- what is left after i of n elements, the next of them tested
tests_next : (file : List ℕ) (j n i : ℕ) → i < n
    → elements_test file (j + 3 * i) (n - i)
    ≡ after (element_test file (j + 3 * i)) (elements_test file (j + 3 * (i + 1)) (n - (i + 1)))
unfolding elements_test
tests_next file j n i h =
    let e : n - i ≡ suc (n - (i + 1)) = omega arith in
    let f : j + 3 * i + 3 ≡ j + 3 * (i + 1) = omega arith in
    ap (elements_test file (j + 3 * i)) e
    ∙ ap (λ k. after (element_test file (j + 3 * i)) (elements_test file k (n - (i + 1)))) f

-- a walk goes on where the next is accepted, and stops where it is refused
pub tests_on : (file : List ℕ) (j n i : ℕ) (t : Answer) → i < n → t ≡ element_test file (j + 3 * i) → t ≡ Ok tt
    → elements_test file (j + 3 * (i + 1)) (n - (i + 1)) ≡ elements_test file (j + 3 * i) (n - i)
tests_on file j n i t h e a = sym (tests_next file j n i h ∙ rw (sym e ∙ a))

pub tests_stop : (file : List ℕ) (j n i : ℕ) (t : Answer) (r : Refusal) → i < n → t ≡ element_test file (j + 3 * i)
    → t ≡ Err r
    → t ≡ elements_test file (j + 3 * i) (n - i)
tests_stop file j n i t r h e a = a ∙ sym (tests_next file j n i h ∙ rw (sym e ∙ a))

next : (j i : ℕ) → j + 3 + 3 * i ≡ j + 3 * suc i
next j i = omega arith

-- all are accepted exactly where each is
pub each_accepted : (file : List ℕ) (j n : ℕ) → elements_test file j n ≡ Ok tt → (i : ℕ) → i < n
    → IsElement file (j + 3 * i)
unfolding elements_test
each_accepted file j zero e i h = absurd (omega arith)
each_accepted file j (suc n) e zero h =
    let s : j ≡ j + 3 * 0 = omega arith in
    rw s at (accepted file j (both_accepted (element_test file j) (elements_test file (j + 3) n) e).0)
each_accepted file j (suc n) e (suc i) h =
    rw (next j i) at
    (each_accepted file (j + 3) n (both_accepted (element_test file j) (elements_test file (j + 3) n) e).1 i
    (omega arith))

pub all_accepted : (file : List ℕ) (j n : ℕ) → ((i : ℕ) → i < n → IsElement file (j + 3 * i))
    → elements_test file j n ≡ Ok tt
unfolding elements_test
all_accepted file j zero h = refl
all_accepted file j (suc n) h =
    let s : j + 3 * 0 ≡ j = omega arith in
    rw (accepts file j (rw s at (h 0 (omega arith))))
    (all_accepted file (j + 3) n (λ i l. rw (next j i) (h (suc i) (omega arith))))

-- the first that is refused decides
pub first_refused : (file : List ℕ) (j n i : ℕ) (r : Refusal) → i < n
    → ((k : ℕ) → k < i → IsElement file (j + 3 * k)) → element_test file (j + 3 * i) ≡ Err r
    → elements_test file j n ≡ Err r
unfolding elements_test
first_refused file j zero i r h b e = absurd (omega arith)
first_refused file j (suc n) zero r h b e =
    let s : j + 3 * 0 ≡ j = omega arith in
    rw (rw s at e)
first_refused file j (suc n) (suc i) r h b e =
    let s : j + 3 * 0 ≡ j = omega arith in
    rw (accepts file j (rw s at (b 0 (omega arith))))
    (first_refused file (j + 3) n i r (omega arith) (λ k l. rw (next j k) (b (suc k) (omega arith))) (rw (next j i) e))

-- and there is such a one where they are not all accepted
pub found_refused : (file : List ℕ) (j n : ℕ) (r : Refusal) → elements_test file j n ≡ Err r
    → (i : ℕ) × (i < n) × ((k : ℕ) → k < i → IsElement file (j + 3 * k)) × (element_test file (j + 3 * i) ≡ Err r)
unfolding elements_test
found_refused file j zero r e = absurd (not_accepted r (sym e))
found_refused file j (suc n) r e = go (element_test file j) refl e (found_refused file (j + 3) n r)
  where
    Found : ℕ → ℕ → Type 0
    Found from m =
        (i : ℕ) × (i < m)
        × ((k : ℕ) → k < i → IsElement file (from + 3 * k)) × (element_test file (from + 3 * i) ≡ Err r)

    first : j ≡ j + 3 * 0
    first = omega arith

    before : IsElement file j → (i : ℕ) → ((k : ℕ) → k < i → IsElement file (j + 3 + 3 * k)) → (k : ℕ) → k < suc i
        → IsElement file (j + 3 * k)
    before h i b zero l = rw first at h
    before h i b (suc k) l = rw (next j k) at (b k (omega arith))

    go : (a : Answer) → element_test file j ≡ a → after a (elements_test file (j + 3) n) ≡ Err r
        → (elements_test file (j + 3) n ≡ Err r → Found (j + 3) n) → Found j (suc n)
    go (Err q) h f later = (0, omega arith, λ k l. absurd (omega arith), rw first at (h ∙ f))
    go (Ok _) h f later =
        let g = later f in (
          suc g.0,
          omega (arith, g.1),
          before (accepted file j h) g.0 g.2,
          rw (next j g.0) at g.3,
        )
