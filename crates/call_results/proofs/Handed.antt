-- The code of an answer that was found to be one or the other, and words handed over.
-- Assumes nothing.
use mathlib.Core.Path.{◌≡◌, refl, ◌∙◌}
use mathlib.Core.List.{List}
use Prim.Native.Nat.{ℕ}
use Rattle.std.specs.Prelude.{Result, Ok, Err}
use Rattle.refusals.specs.declared.Refusal.{Refusal}
use Rattle.call_results.specs.Code.{code, refusal_code, answer_code, words_code, tests_code}
use Rattle.call_results.specs.HandsOver.{written, HandsOver}
use Rattle.refusals.specs.Answers.{Answer, with_value, leaves}

-- ---- the code of an answer that was found to be one or the other
pub answer_accepted : (a : Answer) → a ≡ Ok tt → 0 ≡ answer_code a
unfolding answer_code
answer_accepted a e = rw e

pub answer_refused : (a : Answer) (r : Refusal) → a ≡ Err r → refusal_code r ≡ answer_code a
unfolding answer_code
answer_refused a r e = rw e

pub words_accepted : (a : Result (List ℕ) Refusal) (words : List ℕ) → a ≡ Ok words → 0 ≡ words_code a
unfolding words_code
words_accepted a words e = rw e

pub words_refused : (a : Result (List ℕ) Refusal) (r : Refusal) → a ≡ Err r → refusal_code r ≡ words_code a
unfolding words_code
words_refused a r e = rw e

pub tests_accepted : (a : Result ℕ Refusal) (n : ℕ) → a ≡ Ok n → code 0 0 0 n ≡ tests_code a
unfolding tests_code
tests_accepted a n e = rw e

pub tests_refused : (a : Result ℕ Refusal) (r : Refusal) → a ≡ Err r → refusal_code r ≡ tests_code a
unfolding tests_code
tests_refused a r e = rw e

-- ---- words and their destination
pub handed_accepted : (a : Result (List ℕ) Refusal) (d : List ℕ) (old new : List ℕ) → a ≡ Ok d → new ≡ d
    → HandsOver a 0 old new
handed_accepted a words old new e f = record { coded = words_accepted a words e; output = rw e f }

pub handed_refused : (a : Result (List ℕ) Refusal) (r : Refusal) (code : ℕ) (old : List ℕ) → a ≡ Err r
    → code ≡ refusal_code r → HandsOver a code old old
handed_refused a r code old e f = record { coded = f ∙ words_refused a r e; output = rw e }

pub handed_as : (a b : Result (List ℕ) Refusal) (code : ℕ) (old new : List ℕ) → b ≡ a → HandsOver b code old new
    → HandsOver a code old new
handed_as a b code old new e t = rw e at t

-- ---- words that follow from the answer of tests: their code is that answer's, and what is written is what it leaves
pub value_code : (t : Answer) (words : List ℕ) → words_code (with_value t words) ≡ answer_code t
unfolding words_code answer_code
value_code (Ok _) words = refl
value_code (Err r) words = refl

pub value_written : (t : Answer) (words old : List ℕ) → written (with_value t words) old ≡ leaves t words old
value_written (Ok _) words old = refl
value_written (Err r) words old = refl
