-- `matrix_ready::scaled_column`: each word is the product that its call gives.
-- Assumes nothing.
use Rattle.std.proofs.Common.{rules}
use Rattle.lists.proofs.Made.{made_same}
use Rattle.matrix_ready.proofs.scaled_column.Goals as goal

pub invariant_of-result : goal.invariant_of-result
invariant_of-result c = record { canonical = λ i h. let w = c.from_fn-words.ensures.items.at i 0 h in search rules }

pub returns : goal.returns
returns c = made_same _ 12 _ _ (λ i y q h w. search rules) _ c.from_fn-words.ensures.items
