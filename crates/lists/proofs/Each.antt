-- What a function makes of each number of a list, one after the other: of a list that is joined, and by its cells where
-- it makes c of each.
-- Assumes nothing.
use mathlib.Core.Path.{◌≡◌, refl, sym, ap, ◌∙◌}
use mathlib.Core.List.{List, [], ◌∷◌, ◌++◌, append_assoc, append-nil}
use Prim.Native.Nat.{ℕ, zero, suc, ◌+◌, ◌*◌, ◌<◌}
use native.Mathlib.Nat.{le_of_suc-le-suc}
use native.Mathlib.Numerals.{add-one}
use native.Mathlib.Omega.{arith}
use lib.ListN.{length, length-append, take, get_or-append}
use lib.Seq.{get_or-append-add, take-suc}
use Rattle.lists.specs.Lists.{cell, each}

pub each_append : (f : ℕ → List ℕ) (s t : List ℕ) → each f (s ++ t) ≡ each f s ++ each f t
unfolding each
each_append f [] t = refl
each_append f (x ∷ s) t = ap (λ l. f x ++ l) (each_append f s t) ∙ sym (append_assoc (f x) (each f s) (each f t))

-- of the first i numbers, and of the next
pub each_next : (f : ℕ → List ℕ) (s : List ℕ) (i : ℕ) → i < length s
    → each f (take (i + 1) s) ≡ each f (take i s) ++ f (cell s i)
unfolding each
each_next f s i h =
    ap (λ n. each f (take n s)) (add-one i)
    ∙ ap (each f) (take-suc s i 0 h)
    ∙ each_append f (take i s) (cell s i ∷ [])
    ∙ ap (λ l. each f (take i s) ++ l) (append-nil (f (cell s i)))

pub length_each : (c : ℕ) (f : ℕ → List ℕ) → ((x : ℕ) → length (f x) ≡ c) → (s : List ℕ)
    → length (each f s) ≡ c * length s
unfolding each
length_each c f h [] = omega arith
length_each c f h (x ∷ s) = length-append (f x) (each f s) ∙ omega (arith, h x, length_each c f h s)

pub cell_each : (c : ℕ) (f : ℕ → List ℕ) → ((x : ℕ) → length (f x) ≡ c) → (s : List ℕ) (j b : ℕ) → j < length s → b < c
    → cell (each f s) (c * j + b) ≡ cell (f (cell s j)) b
unfolding each
cell_each c f h [] j b l m = absurd (omega arith)
cell_each c f h (x ∷ s) zero b l m =
    let e : c * 0 + b ≡ b = omega arith in
    ap (cell (f x ++ each f s)) e ∙ get_or-append (f x) (each f s) 0 b (omega (arith, h x))
cell_each c f h (x ∷ s) (suc j) b l m =
    let e : c * suc j + b ≡ length (f x) + (c * j + b) = omega (arith, h x) in
    ap (cell (f x ++ each f s)) e
    ∙ get_or-append-add (f x) (each f s) (c * j + b) 0
    ∙ cell_each c f h s j b (le_of_suc-le-suc l) m
