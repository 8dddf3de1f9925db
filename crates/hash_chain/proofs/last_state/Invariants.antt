-- `hash_chain::last_state`: the state begins with the output of the hashes passed, and a hash of it and the next tap
-- goes on.
-- Assumes nothing.
use mathlib.Core.Path.{◌≡◌}
use Prim.Native.Nat.{◌≤◌}
use lib.ListN.{take}
use Rattle.hash.specs.Hash.{output_at}
use Rattle.hash_chain.proofs.last_state.Given as goal

abbrev pub invariant-loop-h : goal.invariant-loop-h
invariant-loop-h l = (l.h ≤ l.hashes) × (take 4 l.state ≡ output_at l.ready.table.now l.taps l.h)
