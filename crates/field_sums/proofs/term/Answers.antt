-- `field_sums::term`: the loose word less p, settled, is below p.
-- Assumes nothing.
use Rattle.std.proofs.Common.{◌≡◌, ◌+◌, ◌%◌, ◌^◌, ap, ◌∙◌, arith}
use Rattle.field.specs.Field.{P}
use Rattle.field_sums.proofs.Terms.{loose_same}
use Rattle.field_sums.proofs.term.Goals as goal
use Rattle.field_sums.proofs.term.Goals.{After-wrapping_sub_u64}

-- the difference, without its wrap
difference : (c : After-wrapping_sub_u64)
    → (c.wrapping_sub_u64.result + P) % 2 ^ 64 ≡ c.loose_term-loose.result
difference c = c.wrapping_sub_u64.ensures.value

pub settle-requires : goal.settle-requires
settle-requires c = omega (arith, difference c, c.loose_term-loose.ensures.1)

pub returns : goal.returns
returns c =
    let loose = c.loose_term-loose in (
      c.settle.ensures.0
          ∙ ap (λ z. z % P) (difference c.before ∙ loose.ensures.0)
          ∙ loose_same _ _ _,
      c.settle.ensures.1,
    )
