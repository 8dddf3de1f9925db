-- `matrix_inverse::start_word`: the matrix on the left, the identity on the right.
-- Assumes nothing.
use Rattle.std.proofs.Common.{arith}
use Rattle.matrix_inverse.specs.EliminationHelpers.{beside}
use Rattle.matrix_inverse.proofs.start_word.Goals as goal

pub returns-then-l-lt-WIDTH : goal.returns-then-l-lt-WIDTH
unfolding beside
returns-then-l-lt-WIDTH c = grind arith

pub returns-else-l-lt-WIDTH : goal.returns-else-l-lt-WIDTH
unfolding beside
returns-else-l-lt-WIDTH c = grind arith
