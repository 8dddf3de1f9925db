-- `matrix_inverse::start`: each word is that of `start_word`.
-- Assumes nothing.
use Rattle.std.proofs.Common.{rules}
use Rattle.lists.proofs.Made.{made_same}
use Rattle.matrix_inverse.specs.EliminationHelpers.{started}
use Rattle.matrix_inverse.proofs.start.Goals as goal

pub returns : goal.returns
unfolding started
returns c = made_same _ 288 _ _ (λ t y q h k. search rules) _ c.from_fn.ensures.items
