-- Sums of twelve products reduced while they are gathered (document 02, U2): the one word that there is after each
-- step, which takes two terms, and the part of the sum that was gathered by then.
-- Assumes nothing.
use Rattle.std.specs.Prelude.{ℕ, zero, suc, ◌+◌, ◌-◌, ◌*◌, ◌/◌, ◌%◌, ◌^◌}
use Rattle.lists.specs.Lists.{sum}
use Rattle.field.specs.Field.{P}
use Rattle.field.specs.Gathering.{gathered}
use Rattle.numbers.specs.Numbers.{width}

-- the terms that a step takes, and the steps that take all twelve
abbrev pub step_terms : ℕ
step_terms = 2

abbrev pub sum_steps : ℕ
sum_steps = width / step_terms

-- what the term l and those after it divide by, which is given to the term beforehand
unfoldable pub weight : ℕ → ℕ
weight l = 2 ^ (32 * (width - l))

-- the first factor of the term l as it is there: with its weight
abbrev pub weighted_factor : (ℕ → ℕ) → ℕ → ℕ
weighted_factor x l = weight l * x l % P

-- the word after j steps of the sum of x_0 y_0, x_1 y_1, ..: a step gathers the terms 2j and 2j + 1
unfoldable pub sum_word : (ℕ → ℕ) → (ℕ → ℕ) → ℕ → ℕ
sum_word x y zero = 0
sum_word x y (suc j) =
    gathered (gathered (sum_word x y j) (weighted_factor x (step_terms * j)) (y (step_terms * j)))
    (weighted_factor x (step_terms * j + 1)) (y (step_terms * j + 1))

-- the part gathered after j steps, at the scale of the weight of the next term, which is 1 after the last
abbrev pub sum_part : (ℕ → ℕ) → (ℕ → ℕ) → ℕ → ℕ
sum_part x y j = sum (step_terms * j) (λ l. x l * y l)
