-- Words that are returned to another language go to a destination like any other: what it holds afterwards, and the
-- code that is returned with it.
-- Assumes nothing.
use Rattle.std.specs.Prelude.{List, ◌≡◌, ℕ, Result, Ok, Err}
use Rattle.refusals.specs.declared.Refusal.{Refusal}
use Rattle.call_results.specs.Code.{words_code}

-- the words of an accepted answer, or what was there
abbrev pub written : Result (List ℕ) Refusal → List ℕ → List ℕ
written (Ok words) old = words
written (Err r) old = old

-- the code that is returned for the answer, and what the destination of its words holds then
pub record HandsOver (answer : Result (List ℕ) Refusal) (code : ℕ) (old new : List ℕ) : Type 0 where
  pub coded : code ≡ words_code answer
  pub output : new ≡ written answer old
