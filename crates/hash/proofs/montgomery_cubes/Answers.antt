-- `hash::montgomery_cubes`: a cell that is not yet passed is as it was, and canonical.
-- Assumes nothing.
use Rattle.std.proofs.Common.{◌≡◌, ℕ, rules, sym, ap, subst, ◌∙◌, arith}
use Rattle.lists.specs.Lists.{cell}
use Rattle.lists.proofs.Tab.{fills_none, fills_more, fills_next, fills_all, cell_tab}
use Rattle.field.specs.Field.{Canonical}
use Rattle.field.specs.MontgomeryHelpers.{times_word}
use Rattle.field.proofs.Forms.{divided_lt}
use Rattle.hash.specs.HashHelpers.{montgomery_cube}
use Rattle.hash.proofs.montgomery_cubes.Goals as goal

-- the two products
cube_made : (x y square r : ℕ) → y ≡ x → square ≡ times_word y y → r ≡ times_word square y → r ≡ montgomery_cube x
unfolding times_word
cube_made x y square r h e f = f ∙ ap (λ s. times_word s y) e ∙ ap montgomery_cube h

pub loop-x-init : goal.loop-x-init
loop-x-init c = fills_none (search rules)

pub times-requires : goal.times-requires
times-requires c =
    let turn = c.loop-x in
    let here = subst Canonical (sym (fills_next turn.invariant)) (c.args.s.canonical turn.x-index (omega arith)) in
    (here, here, c.quotient-q.ensures)

pub times-requires-in-loop-x : goal.times-requires-in-loop-x
times-requires-in-loop-x c =
    let turn = c.loop-x in
    let here = subst Canonical (sym (fills_next turn.invariant)) (c.args.s.canonical turn.x-index (omega arith)) in
    (c.times.ensures.2, here, c.quotient-q.ensures)

pub loop-x-preserved : goal.loop-x-preserved
loop-x-preserved c =
    let turn = c.loop-x in
    fills_more turn.invariant (omega arith)
    (cube_made _ _ _ _ (fills_next turn.invariant) c.times.ensures.0 c.times-in-loop-x.ensures.0)

pub invariant_of-out : goal.invariant_of-out
invariant_of-out c =
    let made = fills_all c.loop-x.invariant (omega arith) in
    record {
      canonical = λ j h. subst Canonical (sym (ap (λ x. cell x j) made ∙ cell_tab 12 _ j h)) (divided_lt _);
    }

pub returns : goal.returns
returns c = fills_all c.loop-x.invariant (omega arith)
