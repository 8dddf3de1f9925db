-- `field_sums::loose_term`: what is taken off is less than the p that is added.
-- Assumes nothing.
use Rattle.std.proofs.Common.{◌≡◌, ℕ, ◌+◌, ◌-◌, ◌*◌, ◌/◌, ◌%◌, ◌<◌, ◌≤◌, sym, ap, ◌∙◌, subst, arith}
use Rattle.field.specs.Field.{P}
use Rattle.field.specs.MontgomeryHelpers.{half}
use Rattle.field.proofs.Steps.{low_product}
use Rattle.field_sums.specs.TermHelpers.{Loose}
use Rattle.field_sums.proofs.Terms as terms
use Rattle.field_sums.proofs.Terms.{Bounds, below_of, above_of, loose_low, loose_is}
use Rattle.field_sums.proofs.loose_term.Goals as goal
use Rattle.field_sums.proofs.loose_term.Goals.{Start}

module _ (c : Start) where
  -- every need is linear in the four products
  bounds : Bounds c.args.word c.args.low c.args.high c.args.x
  bounds = terms.bounds _ _ _ _ c.requires.0

  abbrev t : ℕ
  t = below_of c.args.word c.args.low c.args.high c.args.x

  abbrev more : ℕ
  more = above_of c.args.low c.args.high c.args.x

  off : t % half * c.args.q ≡ t % half * 536870932
  off = low_product t c.args.q c.requires.1

pub overflow_mul-t : goal.overflow_mul-t
overflow_mul-t c = omega (arith, (bounds c).lower_lower)

pub overflow_add-t : goal.overflow_add-t
overflow_add-t c = omega (arith, c.requires.0.so_far, (bounds c).lower_lower)

pub overflow_mul-t-2 : goal.overflow_mul-t-2
overflow_mul-t-2 c = omega (arith, (bounds c).upper_lower)

pub overflow_add-t-2 : goal.overflow_add-t-2
overflow_add-t-2 c = omega (arith, c.requires.0.so_far, (bounds c).lower_lower, (bounds c).upper_lower)

pub overflow_mul-more : goal.overflow_mul-more
overflow_mul-more c = omega (arith, (bounds c).lower_upper)

pub overflow_mul-more-2 : goal.overflow_mul-more-2
overflow_mul-more-2 c = omega (arith, (bounds c).upper_upper)

pub overflow_add-more : goal.overflow_add-more
overflow_add-more c = omega (arith, (bounds c).lower_upper, (bounds c).upper_upper)

pub overflow_add-result : goal.overflow_add-result
overflow_add-result c = omega (arith, (bounds c).close)

pub overflow_add-result-2 : goal.overflow_add-result-2
overflow_add-result-2 c = omega (arith, (bounds c).close)

pub overflow_mul-result : goal.overflow_mul-result
overflow_mul-result c = omega (arith, off c)

taken : (y l : ℕ) → l < half → l * 536870932 ≤ y + P
taken y l h = omega arith

pub overflow_sub-result : goal.overflow_sub-result
overflow_sub-result c =
    subst (λ w. w ≤ t c / half + more c + P) (sym (off c)) (taken (t c / half + more c) (t c % half) (omega arith))

pub returns : goal.returns
returns c = (
  ap (λ w. t c / half + more c + P - w) (off c) ∙ loose_is _ _ _ _ (bounds c),
  subst Loose (sym (ap (λ w. t c / half + more c + P - w) (off c)))
      (loose_low (t c / half + more c) (t c % half) (bounds c).close),
)
