-- `hash_chain::chain_start`: the first four words of the list are tap 0.
-- Assumes nothing.
use mathlib.Core.Path.{refl, ap}
use mathlib.Core.List.{◌++◌}
use native.Mathlib.Omega.{arith}
use lib.ListN.{replicate}
use Rattle.hash_chain.proofs.CodeChain.{tap_words_lem}
use Rattle.hash_chain.proofs.chain_start.Goals as goal

pub returns : goal.returns
returns c =
    ap (λ t. t ++ replicate 8 0) (tap_words_lem c.args.taps.now 0 0 (omega arith) refl)
