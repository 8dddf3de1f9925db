-- `hash_undo::undo_rounds`: what the rounds that are left make of the state is what all ten make of the first one.
-- Assumes nothing.
use mathlib.Core.Path.{◌≡◌}
use Prim.Native.Nat.{◌-◌}
use Rattle.field_words.specs.Words.{CanonicalTo}
use Rattle.hash_undo.specs.Unhash.{rounds_undone}
use Rattle.hash_undo.proofs.undo_rounds.Given as goal

abbrev pub invariant-loop-undone : goal.invariant-loop-undone
invariant-loop-undone l =
    let T = l.back.table.now in
    CanonicalTo 12 l.state × (rounds_undone T (10 - l.undone) l.state ≡ rounds_undone T 10 l.initial.state)
