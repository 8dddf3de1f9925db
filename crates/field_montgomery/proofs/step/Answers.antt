-- `field_montgomery::step`: the wrapped difference lies between -p and p.
-- Assumes nothing.
use Rattle.std.proofs.Common.{◌≡◌, ℕ, ◌+◌, ◌-◌, ◌*◌, ◌/◌, ◌%◌, ◌^◌, ◌<◌, sym, ap, ◌∙◌, subst, arith}
use Rattle.field.specs.Field.{P}
use Rattle.field.specs.MontgomeryHelpers.{half}
use Rattle.field.proofs.Steps.{low_product, unwrapped, above_zero, step_law}
use Rattle.field_montgomery.proofs.step.Goals as goal
use Rattle.field_montgomery.proofs.step.Goals.{After-wrapping_sub_u64, Start}

pub overflow_mul-t : goal.overflow_mul-t
overflow_mul-t c = omega (arith, low_product c.args.t c.args.q c.requires.1)

-- the difference, without its wrap
module _ (c : After-wrapping_sub_u64) where
  abbrev start : Start
  start = c.before

  abbrev y : ℕ
  y = start.args.t / half + start.args.more

  abbrev w : ℕ
  w = start.args.t % half * 536870932

  difference : (c.wrapping_sub_u64.result + P) % 2 ^ 64 ≡ y + (P - w)
  difference =
      unwrapped c.wrapping_sub_u64.result y w (omega arith) (omega (arith, start.requires.0)) (omega arith)
      (ap (λ z. (c.wrapping_sub_u64.result + z) % 2 ^ 64)
      (sym (low_product start.args.t start.args.q start.requires.1))
      ∙ c.wrapping_sub_u64.ensures.value)

pub settle-requires : goal.settle-requires
settle-requires c =
    subst (λ z. z < 2 * P) (sym (difference c)) (above_zero (y c) (w c) (omega (arith, (start c).requires.0)))

pub returns : goal.returns
returns c =
    let args = (start c.before).args in (
      c.settle.ensures.0 ∙ ap (λ x. x % P) (difference c.before) ∙ step_law args.t args.more,
      c.settle.ensures.1,
    )
