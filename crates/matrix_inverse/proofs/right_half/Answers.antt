-- `matrix_inverse::right_half`: each word is that of columns 12 to 23.
-- Assumes nothing.
use Rattle.std.proofs.Common.{rules}
use Rattle.lists.proofs.Made.{made_same}
use Rattle.matrix_inverse.specs.EliminationHelpers.{right_half}
use Rattle.matrix_inverse.proofs.right_half.Goals as goal

pub returns : goal.returns
unfolding right_half
returns c = made_same _ 144 _ _ (λ t y q h k. search rules) _ c.from_fn.ensures.items
