-- `hash_undo::undo_second_step`: the constant is taken off, and the factor of the roots makes up for the scale of the
-- inverse made ready. What each call hands on is canonical.
-- Assumes nothing.
use mathlib.Core.Path.{ap, ◌∙◌}
use Rattle.matrix.specs.Matrix.{times}
use Rattle.table.specs.Table.{inverse_of}
use Rattle.hash.specs.Hash.{roots}
use Rattle.check_constraints.specs.Constraints.{minus}
use Rattle.check_steps.proofs.Made.{back_is}
use Rattle.hash_undo.specs.Unhash.{second_step_undone}
use Rattle.hash_undo.proofs.CodeRoots.{undone_roots}
use Rattle.hash_undo.proofs.undo_second_step.Goals as goal

pub mix-requires : goal.mix-requires
mix-requires c = back_is _ _ c.args.back.made

pub returns : goal.returns
unfolding second_step_undone
returns c =
    let T = c.args.back.table.now in
    undone_roots T c.args.back.inverse.now c.minus.result c.mix.result.words _
    c.args.back.made c.mix.ensures c.scaled_roots.ensures
    ∙ ap (λ x. roots (times (inverse_of T) x)) (c.minus.ensures.0 ∙ ap (minus _) c.second_step_constant.ensures.0)
