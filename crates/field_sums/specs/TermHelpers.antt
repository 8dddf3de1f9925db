-- What a term of a sum of products is made of, and the word between the two terms of a step.
-- Assumes nothing.
use Rattle.std.specs.Prelude.{◌≡◌, ℕ, ◌+◌, ◌-◌, ◌*◌, ◌/◌, ◌%◌, ◌^◌, ◌<◌}
use Rattle.field.specs.Field.{P, Canonical}
use Rattle.field.specs.MontgomeryHelpers.{half}

-- 2^62 − 2^38: a word between two terms of one step stays below it
abbrev pub Loose : ℕ → Type 0
Loose word = word < 4611685743549480960

-- the word plus low x, in which x is split at 2^31, and 2^31 low brought below p
abbrev pub added : ℕ → ℕ → ℕ → ℕ
added word low x = word + low * (x % 2 ^ 31) + 2 ^ 31 * low % P * (x / 2 ^ 31)

-- v and as many times p, from 1 to 2^32, as make it a multiple of 2^32, divided by 2^32
abbrev pub lowered_loose : ℕ → ℕ
lowered_loose v = (v + P * (half - v % half)) / half

-- the word after a term that is not yet brought below p, as between the two terms of a step
unfoldable pub loose_word : ℕ → ℕ → ℕ → ℕ
loose_word word low x = lowered_loose (added word low x)

-- the word so far, a factor that is there with 2^31 times it, and the other factor
pub record Term (word low high x : ℕ) : Type 0 where
  pub so_far : Loose word
  pub first : Canonical low
  pub raised : high ≡ 2 ^ 31 * low % P
  pub second : Canonical x
