-- `hash::final_state`: the state is that before the round, from whatever input the first one came.
-- Assumes nothing.
use mathlib.Core.Path.{◌≡◌}
use mathlib.Core.List.{List}
use Prim.Native.Nat.{ℕ, ◌≤◌}
use Rattle.field_words.specs.Words.{CanonicalTo}
use Rattle.hash.specs.Hash.{state_at}
use Rattle.hash.proofs.final_state.Given as goal

abbrev pub invariant-loop-round : goal.invariant-loop-round
invariant-loop-round l =
    (l.round ≤ 10) × CanonicalTo 12 l.state
    × ((s : List ℕ) → l.initial.state ≡ state_at l.ready.table.now s 0 → l.state ≡ state_at l.ready.table.now s l.round)
