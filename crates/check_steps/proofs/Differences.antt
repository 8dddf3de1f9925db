-- A state less a constant: its length, and that its cells are canonical.
-- Assumes nothing.
use mathlib.Core.Path.{◌≡◌, sym, ap, ◌∙◌, subst}
use mathlib.Core.List.{List}
use Prim.Native.Nat.{ℕ}
use native.Mathlib.Nat.{mod-lt}
use native.Mathlib.Omega.{arith}
use Rattle.lists.specs.Lists.{cell}
use Rattle.lists.proofs.Tab.{cell_tab}
use Rattle.field.specs.Field.{Canonical, sub}
use Rattle.field_words.specs.Words.{CanonicalTo}
use Rattle.check_constraints.specs.Constraints.{minus}

pub minus_canonical : (s k : List ℕ) {l : List ℕ} → l ≡ minus s k → CanonicalTo 12 l
unfolding minus
minus_canonical s k e j h =
    let here = ap (λ x. cell x j) e ∙ cell_tab 12 (λ n. sub (cell s n) (cell k n)) j h in
    subst Canonical (sym here) (mod-lt _ (omega arith))
