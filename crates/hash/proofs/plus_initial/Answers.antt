-- `hash::plus_initial`: the input plus K_0 is the definition's state before round 0.
-- Assumes nothing.
use mathlib.Core.Path.{ap, ◌∙◌}
use Rattle.hash.specs.Hash.{state_at, plus}
use Rattle.hash.proofs.plus_initial.Goals as goal

pub returns : goal.returns
unfolding state_at
returns c = c.plus.ensures ∙ ap (plus c.args.input) c.initial_constant.ensures.0
