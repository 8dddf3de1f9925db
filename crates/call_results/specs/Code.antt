-- The number that an operation returns to another language: one word with fixed bits for what is told of a refusal,
-- or for acceptance. Bits 0 to 5 hold the refusal's number, 0 for acceptance; bits 6 to 11 the constraint; bits 12 to
-- 35 the row; bits 36 to 63 the index, or the tests. Each part is cut to its bits; that no answer loses anything by
-- it is shown in crate `call_answers`, proofs/Theorems.antt.
-- Assumes nothing.
use Rattle.std.specs.Prelude.{◌≡◌, List, ℕ, ◌+◌, ◌*◌, ◌/◌, ◌%◌, ◌^◌, Result, Ok, Err}
use Rattle.refusals.specs.Refusals.{told, row_of, constraint_of, value_of}
use Rattle.refusals.specs.declared.Particulars.{Particulars}
use Rattle.refusals.specs.declared.Refusal.{Refusal}
use Rattle.refusals.specs.Answers.{Answer}

-- ---- the code

unfoldable pub code : ℕ → ℕ → ℕ → ℕ → ℕ
code number constraint row value =
    number % 2 ^ 6 + 2 ^ 6 * (constraint % 2 ^ 6) + 2 ^ 12 * (row % 2 ^ 24) + 2 ^ 36 * (value % 2 ^ 28)

-- of what is told of a refusal
unfoldable pub particulars_code : Particulars → ℕ
particulars_code p = code p.number (constraint_of p.place) (row_of p.place) (value_of p.place)

abbrev pub refusal_code : Refusal → ℕ
refusal_code r = particulars_code (told r)

-- of an answer. Acceptance is 0, with the tests where the operation counts them; four, eight or twelve words are
-- written, and no part of the code
unfoldable pub answer_code : Answer → ℕ
answer_code (Ok _) = 0
answer_code (Err r) = refusal_code r

unfoldable pub words_code : Result (List ℕ) Refusal → ℕ
words_code (Ok words) = 0
words_code (Err r) = refusal_code r

unfoldable pub tests_code : Result ℕ Refusal → ℕ
tests_code (Ok n) = code 0 0 0 n
tests_code (Err r) = refusal_code r

-- ---- what a code says

abbrev pub number_in : ℕ → ℕ
number_in c = c % 2 ^ 6

abbrev pub constraint_in : ℕ → ℕ
constraint_in c = c / 2 ^ 6 % 2 ^ 6

abbrev pub row_in : ℕ → ℕ
row_in c = c / 2 ^ 12 % 2 ^ 24

abbrev pub value_in : ℕ → ℕ
value_in c = c / 2 ^ 36

-- each part is what is told
pub record Says (c : ℕ) (p : Particulars) : Type 0 where
  pub number : number_in c ≡ p.number
  pub constraint : constraint_in c ≡ constraint_of p.place
  pub row : row_in c ≡ row_of p.place
  pub value : value_in c ≡ value_of p.place
