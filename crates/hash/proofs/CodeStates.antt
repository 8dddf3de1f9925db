-- What the code's steps hand on: a result that equals a state has canonical cells.
-- Assumes nothing.
use mathlib.Core.Path.{◌≡◌, sym, subst}
use mathlib.Core.List.{List}
use Prim.Native.Nat.{ℕ}
use Rattle.field_words.specs.Words.{CanonicalTo}
use Rattle.hash.proofs.States.{IsState, state_cell}

pub canonical_state : {r s : List ℕ} → r ≡ s → IsState s → CanonicalTo 12 r
canonical_state e h = subst (CanonicalTo 12) (sym e) (λ j l. state_cell h j)
