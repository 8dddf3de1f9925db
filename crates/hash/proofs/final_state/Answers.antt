use mathlib.Core.Path.{◌≡◌, ap, ◌∙◌}
use native.Mathlib.Numerals.{add-one}
use native.Mathlib.Omega.{arith}
use Rattle.hash.specs.Hash.{first_step, second_step, state_at, final_state}
use Rattle.hash.proofs.States.{first_step_state, second_step_state, state_at_state}
use Rattle.hash.proofs.CodeStates.{canonical_state}
use Rattle.hash.proofs.final_state.Goals as goal

pub loop-round-init : goal.loop-round-init
loop-round-init c = (omega arith, canonical_state c.plus_initial-state.ensures (state_at_state _ _ 0), λ s e. e)

pub second_step-next-requires : goal.second_step-next-requires
second_step-next-requires c = (omega arith, canonical_state c.first_step.ensures (first_step_state _ _ _))

pub loop-round-preserved : goal.loop-round-preserved
unfolding state_at
loop-round-preserved c =
    let T = c.args.ready.table.now in
    let round = c.loop-round.round in (
      omega arith,
      canonical_state c.second_step-next.ensures (second_step_state _ _ _),
      λ s e. c.second_step-next.ensures
          ∙ ap (second_step T round) (c.first_step.ensures ∙ ap (first_step T round) (c.loop-round.invariant.2 s e))
          ∙ rw (add-one round),
    )

pub returns : goal.returns
unfolding final_state
returns c =
    let start = c.args in
    let e : c.loop-round.round ≡ 10 = omega arith in
    c.loop-round.invariant.2 start.input c.plus_initial-state.ensures
    ∙ ap (state_at start.ready.table.now start.input) e
