-- What a word says, from the tests that it tells of, and what a destination holds then.
-- Assumes nothing.
use mathlib.Core.Path.{◌≡◌, refl, ap, ◌∙◌}
use mathlib.Core.List.{List}
use Prim.Native.Nat.{ℕ, ◌^◌, ◌<◌}
use lib.Dec.{lit<}
use Rattle.std.specs.Prelude.{Ok, Err}
use Rattle.refusals.specs.Refusals.{told}
use Rattle.refusals.specs.Answers.{Answer, with_value, leaves}
use Rattle.refusals.specs.declared.Refusal.{Refusal}
use Rattle.refusals.proofs.Laws.{IsRefusal, AnswerEnds}
use Rattle.call_results.specs.Code.{code as code_of_lem, answer_code, words_code, tests_code}
use Rattle.call_results.specs.HandsOver.{written, HandsOver}
use Rattle.call_results.proofs.Bits.{RefusalInBits, says, says_accepted}
use Rattle.demands.specs.Demand1.{OneOf, Answered, accepted, refused}

-- the word of an answer that counts no tests is that of one with 0 tests
pub answer_none : (t : Answer) → answer_code t ≡ tests_code (with_value t 0)
unfolding answer_code tests_code code_of_lem
answer_none (Ok _) = refl
answer_none (Err r) = refl

pub digest_none : (t : Answer) (d : List ℕ) → words_code (with_value t d) ≡ tests_code (with_value t 0)
unfolding words_code tests_code code_of_lem
digest_none (Ok _) d = refl
digest_none (Err r) d = refl

pub state_none : (t : Answer) (s : List ℕ) → words_code (with_value t s) ≡ tests_code (with_value t 0)
unfolding words_code tests_code code_of_lem
state_none (Ok _) s = refl
state_none (Err r) s = refl

-- what a word says, from the tests t that it tells of: they are within its bits, and refuse with these numbers only
module _ (code : ℕ) (ns : List ℕ) (Is : Answer → Type 0) (full : ℕ → Type 0) (kept : Type 0) where
  pub tests_says : (t : Answer) → Is t → (n : ℕ) → code ≡ tests_code (with_value t n)
      → (t ≡ Ok tt → n < 2 ^ 28) → AnswerEnds RefusalInBits t → AnswerEnds (OneOf ns) t
      → (t ≡ Ok tt → full n) → (IsRefusal t → kept) → Answered code ns Is full kept
  unfolding tests_code
  tests_says (Ok _) i n e l b o f k = accepted n i (rw e (says_accepted n (l refl))) (f refl)
  tests_says (Err r) i n e l b o f k = refused r i (rw e (says (told r) b)) o (k (r, refl))

  pub answer_says : (t : Answer) → Is t → code ≡ answer_code t → AnswerEnds RefusalInBits t → AnswerEnds (OneOf ns) t
      → (t ≡ Ok tt → full 0) → (IsRefusal t → kept) → Answered code ns Is full kept
  answer_says t i e = tests_says t i 0 (e ∙ answer_none t) (λ a. lit< tt)

  pub digest_says : (t : Answer) → Is t → (d : List ℕ) → code ≡ words_code (with_value t d)
      → AnswerEnds RefusalInBits t → AnswerEnds (OneOf ns) t
      → (t ≡ Ok tt → full 0) → (IsRefusal t → kept) → Answered code ns Is full kept
  digest_says t i d e = tests_says t i 0 (e ∙ digest_none t d) (λ a. lit< tt)

  pub state_says : (t : Answer) → Is t → (s : List ℕ) → code ≡ words_code (with_value t s)
      → AnswerEnds RefusalInBits t → AnswerEnds (OneOf ns) t
      → (t ≡ Ok tt → full 0) → (IsRefusal t → kept) → Answered code ns Is full kept
  state_says t i s e = tests_says t i 0 (e ∙ state_none t s) (λ a. lit< tt)

-- four words that are handed over after the tests t
module _ (t : Answer) (d : List ℕ) (code : ℕ) (old new : List ℕ) (h : HandsOver (with_value t d) code old new) where
  pub output_new : t ≡ Ok tt → new ≡ d
  output_new e = h.output ∙ ap (λ x. written (with_value x d) old) e

  pub output_old : IsRefusal t → new ≡ old
  output_old r = h.output ∙ ap (λ x. written (with_value x d) old) r.1

-- what a destination holds after a refusal
pub kept_old : (a : Answer) (r : Refusal) → a ≡ Err r → (new old : List ℕ) → leaves a new old ≡ old
kept_old a r e new old = ap (λ x. leaves x new old) e
