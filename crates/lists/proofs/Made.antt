-- An array that `from_fn` makes by a closure that changes nothing has the closure's answers for its cells.
-- Assumes nothing.
use Rattle.std.proofs.Common.{◌≡◌, ◌∙◌, subst, ℕ, zero, suc, ◌+◌, ◌<◌, List, arith}
use Rattle.std.specs.Array.{IsFromFnResultFrom, IsFromFnResult}
use Rattle.std.specs.Fn.{Called}
use denote.Param.Members.{Mut}
use Rattle.lists.specs.Lists.{cell, tab}
use Rattle.lists.proofs.Tab.{tab_unique}

module _ {F : Type 0} (g : Mut F (ℕ × Unit {0}) ℕ) (n : ℕ) (h : ℕ → ℕ) (f : F)
    (step : (i y : ℕ) (q : F) → i < n → Called g f (i, tt) y q → (y ≡ h i) × (q ≡ f)) where
  -- the k calls from the one at i on
  made_from : (s : List ℕ) (k i : ℕ) → i + k ≡ n → IsFromFnResultFrom g f s i k → (m j : ℕ) → j ≡ i + m → m < k
      → cell s j ≡ h j
  made_from s zero i e w m j p l = absurd (omega arith)
  made_from s (suc k) i e w zero j p l =
      let at : i ≡ j = omega arith in
      subst (λ j. cell s j ≡ h j) at (w.2.1 0 ∙ (step i w.1 w.0 (omega arith) w.3).0)
  made_from s (suc k) i e w (suc m) j p l =
      let rest = subst (λ q. IsFromFnResultFrom g q s (i + 1) k) (step i w.1 w.0 (omega arith) w.3).1 w.4 in
      made_from s k (i + 1) (omega arith) rest m j (omega arith) (omega arith)

  pub made_same : (s : List ℕ) → IsFromFnResult g f s n → s ≡ tab n h
  made_same s r = tab_unique n s h r.long (λ j l. made_from s n 0 (omega arith) r.each j j (omega arith) l)
