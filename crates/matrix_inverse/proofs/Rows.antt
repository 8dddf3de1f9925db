-- The rows of the elimination under a row operation: what is written, what stays, and that no new column goes to zeros.
-- Assumes nothing.
use Prim.Native.Nat.{ℕ, ◌+◌, ◌*◌, ◌%◌, ◌<◌}
use mathlib.Core.Path.{◌≡◌, refl, sym, ap, ◌∙◌, subst}
use mathlib.Core.List.{List}
use native.Mathlib.Nat.{mod-lt, mod-mod, add-zero, add-mod-mod}
use native.Mathlib.Decide.{ℕ_discrete}
use native.Mathlib.Omega.{arith}
use lib.ListN.{length, set, length-set}
use lib.Seq.{get_or-set_same, get_or-set_other}
use Rattle.lists.specs.Lists.{cell}
use Rattle.field.specs.Field.{P, Canonical, mul}
use Rattle.field.proofs.Power.{big}
use Rattle.matrix.specs.Matrix.{times_column}
use Rattle.matrix_inverse.specs.EliminationHelpers.{at, Working, RowSet, scaled_row, added_row, Zeros}
use Rattle.matrix_inverse.proofs.Elimination.{added, scaled}

-- ---- a loop that writes row r from the left
pub row_none : (w : List ℕ) (r : ℕ) (f : ℕ → ℕ) → RowSet w w r 0 f
row_none w r f = record { size = refl; done = λ l h. absurd (omega arith); rest = λ i l hi hl h. refl }

pub row_more : (w v : List ℕ) (r k : ℕ) (f : ℕ → ℕ) (x : ℕ) → length w ≡ 288 → r < 12 → k < 24 → RowSet w v r k f
    → x ≡ f k → RowSet w (set v (24 * r + k) x) r (k + 1) f
row_more w v r k f x len hr hk h e = record { size = length-set v (24 * r + k) x ∙ h.size; done = done'; rest = rest' }
  where
    done' : (l : ℕ) → l < k + 1 → at (set v (24 * r + k) x) r l ≡ f l
    done' l hl = go (ℕ_discrete l k)
      where
        go : Dec (l ≡ k) → at (set v (24 * r + k) x) r l ≡ f l
        go (yes q) =
            ap (at (set v (24 * r + k) x) r) q
            ∙ get_or-set_same v (24 * r + k) x 0 (omega (arith, h.size))
            ∙ e
            ∙ ap f (sym q)
        go (no q) = get_or-set_other v (24 * r + k) (24 * r + l) x 0 (λ g. q (omega arith)) ∙ h.done l (omega arith)

    rest' : (i l : ℕ) → i < 12 → l < 24 → (i ≡ r → l < k + 1 → ⊥) → at (set v (24 * r + k) x) i l ≡ at w i l
    rest' i l hi hl not =
        get_or-set_other v (24 * r + k) (24 * i + l) x 0 (λ g. not (same_row g) (omega (arith, same_row g)))
        ∙ h.rest i l hi hl (λ a b. not a (omega arith))
      where
        same_row : 24 * i + l ≡ 24 * r + k → i ≡ r
        same_row g = omega arith

pub row_end : (w v : List ℕ) (r k : ℕ) (f : ℕ → ℕ) → k ≡ 24 → RowSet w v r k f → RowSet w v r 24 f
row_end w v r k f e h = subst (λ y. RowSet w v r y f) e h

-- the next word of the row is still as it was, and so is every other row
pub row_next : (w v : List ℕ) (r k : ℕ) (f : ℕ → ℕ) → r < 12 → k < 24 → RowSet w v r k f → at v r k ≡ at w r k
row_next w v r k f hr hk h = h.rest r k hr hk (λ e b. omega arith)

pub row_other : (w v : List ℕ) (r k : ℕ) (f : ℕ → ℕ) → RowSet w v r k f → (i l : ℕ) → i < 12 → l < 24 → (i ≡ r → ⊥)
    → at v i l ≡ at w i l
row_other w v r k f h i l hi hl ne = h.rest i l hi hl (λ q b. ne q)

pub next_canonical : (w v : List ℕ) (r k : ℕ) (f : ℕ → ℕ) → Working w → r < 12 → k < 24 → RowSet w v r k f
    → Canonical (at v r k)
next_canonical w v r k f hw hr hk h = subst (λ y. y < P) (sym (row_next w v r k f hr hk h)) (hw.canonical r k hr hk)

pub other_canonical : (w v : List ℕ) (r k : ℕ) (f : ℕ → ℕ) → Working w → RowSet w v r k f → (i l : ℕ) → i < 12
    → l < 24 → (i ≡ r → ⊥) → Canonical (at v i l)
other_canonical w v r k f hw h i l hi hl ne =
    subst (λ y. y < P) (sym (row_other w v r k f h i l hi hl ne)) (hw.canonical i l hi hl)

-- ---- a whole row, and the word that it starts with
pub first_canonical : (w : List ℕ) (r : ℕ) → Working w → r < 12 → Canonical (cell w (24 * r))
first_canonical w r hw hr = subst (λ y. cell w y < P) (add-zero (24 * r)) (hw.canonical r 0 hr (omega arith))

pub row_working : (w v : List ℕ) (r : ℕ) (f : ℕ → ℕ) → Working w → ((l : ℕ) → l < 24 → Canonical (f l))
    → RowSet w v r 24 f → Working v
row_working w v r f hw hf h = record { size = h.size ∙ hw.size; canonical = low }
  where
    low : (i l : ℕ) → i < 12 → l < 24 → Canonical (at v i l)
    low i l hi hl = go (ℕ_discrete i r)
      where
        go : Dec (i ≡ r) → Canonical (at v i l)
        go (yes e) = subst (λ y. at v y l < P) (sym e) (subst (λ y. y < P) (sym (h.done l hl)) (hf l hl))
        go (no e) = subst (λ y. y < P) (sym (row_other w v r 24 f h i l hi hl e)) (hw.canonical i l hi hl)

pub added_lt : (w : List ℕ) (r j c l : ℕ) → added_row w r j c l < P
added_lt w r j c l = mod-lt (at w r l + mul c (at w j l)) (omega arith)

pub scaled_lt : (w : List ℕ) (r c l : ℕ) → scaled_row w r c l < P
scaled_lt w r c l = mod-lt (c * at w r l) (omega arith)

pub added_keeps : (w v : List ℕ) (r j c : ℕ) → j < 12 → (r ≡ j → ⊥) → RowSet w v r 24 (added_row w r j c)
    → (z : ℕ → ℕ) → Zeros v z → Zeros w z
unfolding times_column
added_keeps w v r j c hj ne h =
    added P big 12 24 (at w) (at v) r (row_other w v r 24 (added_row w r j c) h) j c hj (λ e. ne (sym e))
    (λ l hl. ap (λ y. y % P) (h.done l hl)
    ∙ mod-mod (at w r l + mul c (at w j l)) P
    ∙ add-mod-mod (at w r l) (c * at w j l) P)

pub scaled_keeps : (w v : List ℕ) (r c d : ℕ) → mul d c ≡ 1 → RowSet w v r 24 (scaled_row w r c) → (z : ℕ → ℕ)
    → Zeros v z → Zeros w z
unfolding times_column
scaled_keeps w v r c d unit h =
    scaled P big 12 24 (at w) (at v) r (row_other w v r 24 (scaled_row w r c) h) c d unit
    (λ l hl. ap (λ y. y % P) (h.done l hl) ∙ mod-mod (c * at w r l) P)
