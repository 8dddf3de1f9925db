-- `trace::write_rounds`: the rows passed are middle states, and the state is that before the round, from whatever input
-- the first one came.
-- Assumes nothing.
use mathlib.Core.Path.{◌≡◌}
use mathlib.Core.List.{List}
use Prim.Native.Nat.{ℕ, ◌+◌, ◌-◌, ◌≤◌}
use lib.ListN.{length}
use Rattle.field_words.specs.Words.{CanonicalTo}
use Rattle.hash.specs.Hash.{state_at, middle_state}
use Rattle.trace.specs.RowHelpers.{with_rows}
use Rattle.trace.proofs.write_rounds.Given as goal

-- what holds before a round, from the input s: the state, and the rows written so far
pub record Passed (T s : List ℕ) (first : ℕ) (old new state : List ℕ) (round : ℕ) : Type 0 where
  pub at : state ≡ state_at T s round
  pub rows : new ≡ with_rows (λ i. middle_state T s (i - first)) first (first + round) old

abbrev pub invariant-loop-round : goal.invariant-loop-round
invariant-loop-round l =
    (l.round ≤ 10) × CanonicalTo 12 l.state × (length l.destination ≡ length l.initial.destination)
    × ((s : List ℕ) → l.initial.state ≡ state_at l.ready.table.now s 0
    → Passed l.ready.table.now s l.first l.initial.destination l.destination l.state l.round)
