-- `call_results::code`: each part is cut below its bound, so that the sum fits 64 bits.
-- Assumes nothing.
use native.Mathlib.Omega.{arith}
use Rattle.call_results.specs.Code.{code}
use Rattle.call_results.proofs.code.Goals as goal

pub returns : goal.returns
unfolding code
returns c = omega arith
