-- The words of a sum of products: each is made of the one before and the next two terms, and is the part gathered so
-- far.
-- Assumes nothing.
use Rattle.std.proofs.Common.{◌≡◌, ℕ, zero, suc, ◌+◌, ◌-◌, ◌*◌, ◌%◌, ◌^◌, ◌<◌, ◌≤◌, sym, ap, ◌∙◌, ap₂, mod-lt, one-mul}
use Rattle.std.proofs.Common.{add-one, arith, pow-add}
use native.Mathlib.Nat.{add-mod-mod, mod-add-mod}
use Rattle.lists.specs.Lists.{sum}
use Rattle.lists.proofs.Sum.{sum_suc}
use Rattle.field.specs.Field.{P, Canonical}
use Rattle.field.specs.Gathering.{half_inverse, lowered, gathered}
use Rattle.field.specs.MontgomeryHelpers.{half}
use Rattle.field.proofs.Modular.{mul_mod_l}
use Rattle.field.proofs.Steps.{same, lowered_same}
use Rattle.field_sums.specs.Sums.{weight, weighted_factor, sum_word, sum_part}

lowered_half : (v : ℕ) → lowered (half * v) ≡ v % P
lowered_half v = same P (half * v * half_inverse) v 0 (4294967295 * v) (omega arith)

weight_step : (l : ℕ) → l < 12 → weight l ≡ half * weight (l + 1)
unfolding weight
weight_step l h = ap (λ n. 2 ^ n) e ∙ pow-add 2 32 (32 * (12 - (l + 1)))
  where
    e : 32 * (12 - l) ≡ 32 + 32 * (12 - (l + 1))
    e = omega arith

sum_next : (f : ℕ → ℕ) (l : ℕ) → sum l f + f l ≡ sum (l + 1) f
sum_next f l = sym (sum_suc l f) ∙ ap (λ n. sum n f) (sym (add-one l))

module _ (x y : ℕ → ℕ) where
  pub word_canonical : (j : ℕ) → Canonical (sum_word x y j)
  unfolding sum_word
  word_canonical zero = omega arith
  word_canonical (suc j) = mod-lt _ (omega arith)

  -- a term more, of a sum s at the scale of that term's weight
  term_more : (l s word : ℕ) → l < 12 → word ≡ (weight l * s) % P
      → gathered word (weighted_factor x l) (y l) ≡ (weight (l + 1) * (s + x l * y l)) % P
  term_more l s word h e =
      lowered_same (word + weight l * x l % P * y l) (half * (weight (l + 1) * (s + x l * y l)))
      (ap (λ z. (z + weight l * x l % P * y l) % P) e
      ∙ mod-add-mod (weight l * s) P (weight l * x l % P * y l)
      ∙ sym (add-mod-mod (weight l * s) (weight l * x l % P * y l) P)
      ∙ ap (λ z. (weight l * s + z) % P) (mul_mod_l P (weight l * x l) (y l))
      ∙ add-mod-mod (weight l * s) (weight l * x l * y l) P
      ∙ ap (λ z. z % P) (go (weight l) (weight (l + 1)) (x l) (y l) (weight_step l h)))
      ∙ lowered_half (weight (l + 1) * (s + x l * y l))
    where
      go : (w v a b : ℕ) → w ≡ half * v → w * s + w * a * b ≡ half * (v * (s + a * b))
      go w v a b p = ap (λ z. z * s + z * a * b) p ∙ omega arith

  -- after each step the word is the part gathered so far, at its scale
  pub word_is_part : (j : ℕ) → j ≤ 6 → sum_word x y j ≡ (weight (2 * j) * sum_part x y j) % P
  unfolding sum_word sum
  word_is_part zero h = start
    where
      start : 0 ≡ (weight 0 * 0) % P
      start = omega arith
  word_is_part (suc j) h =
      term_more (2 * j + 1) (sum_part x y j + x (2 * j) * y (2 * j)) _ (omega arith)
      (term_more (2 * j) (sum_part x y j) (sum_word x y j) (omega arith) (word_is_part j (omega arith)))
      ∙ ap₂ (λ w s. (w * s) % P) (ap weight next)
      (ap (λ s. s + f (2 * j + 1)) (sum_next f (2 * j)) ∙ sum_next f (2 * j + 1) ∙ ap (λ n. sum n f) next)
    where
      f : ℕ → ℕ
      f l = x l * y l

      next : 2 * j + 1 + 1 ≡ 2 * suc j
      next = omega arith

  -- after the last there is no weight left
  pub whole_sum : sum_word x y 6 ≡ sum_part x y 6 % P
  unfolding weight
  whole_sum = word_is_part 6 (omega arith) ∙ ap (λ z. z % P) (one-mul (sum_part x y 6))
