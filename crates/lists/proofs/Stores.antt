-- A run of stores that goes on where another ended, and one that fills the whole list.
-- Assumes nothing.
use mathlib.Core.Path.{◌≡◌, ap, ◌∙◌}
use mathlib.Core.List.{List, [], ◌∷◌, ◌++◌, append-nil}
use Prim.Native.Nat.{ℕ, suc, ◌+◌}
use native.Mathlib.Nat.{add-zero}
use native.Mathlib.Omega.{arith}
use lib.ListN.{length, set, drop_of_length-le}
use lib.Seq.{sets, sets-eq}

pub sets_append : (l : List ℕ) (i : ℕ) (v w : List ℕ) → sets (sets l i v) (i + length v) w ≡ sets l i (v ++ w)
sets_append l i [] w = ap (λ k. sets l k w) (add-zero i)
sets_append l i (a ∷ v) w =
    let e : i + suc (length v) ≡ suc i + length v = omega arith in
    ap (λ k. sets (sets (set l i a) (suc i) v) k w) e ∙ sets_append (set l i a) (suc i) v w

pub sets_all : (l v : List ℕ) → length v ≡ length l → sets l 0 v ≡ v
sets_all l v e =
    sets-eq v l 0 (omega arith)
    ∙ ap (λ r. v ++ r) (drop_of_length-le l {i = 0 + length v} (omega arith))
    ∙ append-nil v
