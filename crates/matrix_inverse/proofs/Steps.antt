-- The steps of the elimination: a row with a pivot added, a row divided by its pivot, the other rows cleared.
-- Assumes nothing.
use Prim.Native.Nat.{ℕ, ◌+◌, ◌%◌, ◌<◌, ◌≤◌}
use mathlib.Core.Path.{◌≡◌, sym, ap, ap₂, ◌∙◌}
use mathlib.Core.List.{List}
use native.Mathlib.Nat.{mul-zero, mul_comm, one-mul, mod-eq_of_lt, mod-mod, zero-mod, zero-add, add-zero}
use native.Mathlib.Decide.{ℕ_discrete}
use native.Mathlib.Omega.{arith}
use Rattle.std.specs.Prelude.{Option, Some, None, MatchOption}
use Rattle.field.specs.Field.{P, Canonical, add, neg, mul, inverse}
use Rattle.field.proofs.Power.{big}
use Rattle.field.proofs.Fermat.{inverse_law}
use Rattle.matrix.specs.Matrix.{identity}
use Rattle.matrix.proofs.Linear.{identity_same, identity_other, identity_lt}
use Rattle.matrix_inverse.specs.EliminationHelpers.{at, RowSet, scaled_row, added_row, Reduced, Reduces, Pivot, NoPivot}
use Rattle.matrix_inverse.proofs.Rows.{row_other, row_working, added_lt, scaled_lt, added_keeps, scaled_keeps}

pub reduces_none : (w : List ℕ) (j : ℕ) → Reduced w j → Reduces w w j
reduces_none w j h = record { reduced = h; keeps = λ z q. q }

pub reduces_trans : (u w v : List ℕ) (i j : ℕ) → Reduces u w i → Reduces w v j → Reduces u v j
reduces_trans u w v i j g h = record { reduced = h.reduced; keeps = λ z q. g.keeps z (h.keeps z q) }

-- a row that keeps its first j words
keep : (w v : List ℕ) (j r : ℕ) (f : ℕ → ℕ) → j ≤ 24 → Reduced w j → ((l : ℕ) → l < 24 → Canonical (f l))
    → ((l : ℕ) → l < j → f l ≡ identity r l) → RowSet w v r 24 f → Reduced v j
keep w v j r f hj h low same set = record { working = row_working w v r f h.working low set; ident = id }
  where
    id : (i l : ℕ) → i < 12 → l < j → at v i l ≡ identity i l
    id i l hi hl = go (ℕ_discrete i r)
      where
        go : Dec (i ≡ r) → at v i l ≡ identity i l
        go (yes e) = ap (λ y. at v y l) e ∙ set.done l (omega arith) ∙ same l hl ∙ ap (λ y. identity y l) (sym e)
        go (no e) = row_other w v r 24 f set i l hi (omega arith) e ∙ h.ident i l hi hl

-- where row j has 0, adding it changes nothing
adds_none : (w : List ℕ) (r j c l d : ℕ) → at w r l ≡ d → d < P → at w j l ≡ 0 → added_row w r j c l ≡ d
adds_none w r j c l d e h z =
    ap₂ (λ x y. add x (mul c y)) e z
    ∙ ap (λ y. (d + y % P) % P) (mul-zero c)
    ∙ ap (λ y. y % P) (add-zero d)
    ∙ mod-eq_of_lt h

-- ---- the pivot
pub pivot_more : (w : List ℕ) (j r : ℕ) → ((i : ℕ) → j ≤ i → i < r → at w i j ≡ 0) → at w r j ≡ 0 → (i : ℕ) → j ≤ i
    → i < r + 1 → at w i j ≡ 0
pivot_more w j r h e i a b = go (ℕ_discrete i r)
  where
    go : Dec (i ≡ r) → at w i j ≡ 0
    go (yes q) = ap (λ y. at w y j) q ∙ e
    go (no q) = h i a (omega arith)

pub pivot_first : (w : List ℕ) (j : ℕ) (r : Option ℕ)
    → MatchOption r (NoPivot w j)
    (λ i. (j ≤ i) × (i < 12) × (at w i j ≡ 0 → ⊥) × ((k : ℕ) → j ≤ k → k < i → at w k j ≡ 0))
    → MatchOption r (NoPivot w j) (λ i. Pivot w j i)
pivot_first w j None h = h
pivot_first w j (Some i) h = record { from = h.0; within = h.1; before = h.3; found = h.2 }

pub lifted_same : (w : List ℕ) (j r : ℕ) → Reduced w j → Pivot w j r → j ≡ r → Reduces w w j × (at w j j ≡ 0 → ⊥)
lifted_same w j r h p e = (reduces_none w j h, λ z. p.found (ap (λ y. at w y j) (sym e) ∙ z))

pub lifted : (w v : List ℕ) (j r : ℕ) → j < 12 → Reduced w j → Pivot w j r → (j ≡ r → ⊥)
    → RowSet w v j 24 (added_row w j r 1) → Reduces w v j × (at v j j ≡ 0 → ⊥)
lifted w v j r hj h p ne set = (
  record {
    reduced = keep w v j j (added_row w j r 1) (omega arith) h (λ l g. added_lt w j r 1 l) same set;
    keeps = added_keeps w v j r 1 p.within ne set;
  },
  non,
)
  where
    after : j < r
    after = omega (arith, p.from, ne)

    same : (l : ℕ) → l < j → added_row w j r 1 l ≡ identity j l
    same l g =
        adds_none w j r 1 l (identity j l) (h.ident j l hj g) (identity_lt P big j l)
        (h.ident r l p.within g ∙ identity_other r l (λ e. omega (arith, after)))

    value : at v j j ≡ at w r j
    value =
        set.done j (omega arith)
        ∙ ap₂ (λ x y. (x + y % P) % P) (p.before j (omega arith) after) (one-mul (at w r j))
        ∙ ap (λ y. y % P) (zero-add (at w r j % P))
        ∙ mod-mod (at w r j) P
        ∙ mod-eq_of_lt (h.working.canonical r j p.within (omega arith))

    non : at v j j ≡ 0 → ⊥
    non e = p.found (sym value ∙ e)

-- ---- a row divided by its pivot
pub divided : (w v : List ℕ) (j c : ℕ) → j < 12 → Reduced w j → (at w j j ≡ 0 → ⊥) → c ≡ inverse (at w j j)
    → RowSet w v j 24 (scaled_row w j c) → Reduces w v j × (at v j j ≡ 1)
divided w v j c hj h ne e set = (
  record {
    reduced = keep w v j j (scaled_row w j c) (omega arith) h (λ l g. scaled_lt w j c l) same set;
    keeps = scaled_keeps w v j c (at w j j) unit set;
  },
  set.done j (omega arith) ∙ ap (λ y. y % P) (mul_comm c (at w j j)) ∙ unit,
)
  where
    unit : mul (at w j j) c ≡ 1
    unit = ap (mul (at w j j)) e ∙ inverse_law (at w j j) (omega arith) (h.working.canonical j j hj (omega arith))

    same : (l : ℕ) → l < j → scaled_row w j c l ≡ identity j l
    same l g = ap (mul c) zero ∙ ap (λ y. y % P) (mul-zero c) ∙ zero-mod P ∙ sym (identity_other j l (λ q. omega arith))
      where
        zero : at w j l ≡ 0
        zero = h.ident j l hj g ∙ identity_other j l (λ q. omega arith)

-- ---- the other rows cleared
plus_neg : (x : ℕ) → x < P → add x (mul (neg x) 1) ≡ 0
plus_neg x h = omega arith

-- rows before i are 0 in column j, but for row j, which has 1
pub record Cleared (w v : List ℕ) (j i : ℕ) : Type 0 where
  pub reduces : Reduces w v j
  pub one : at v j j ≡ 1
  pub zeros : (k : ℕ) → k < i → (k ≡ j → ⊥) → at v k j ≡ 0

pub cleared_none : (w : List ℕ) (j : ℕ) → Reduced w j → at w j j ≡ 1 → Cleared w w j 0
cleared_none w j h o = record { reduces = reduces_none w j h; one = o; zeros = λ k l. absurd (omega arith) }

pub cleared_same : (w v : List ℕ) (j i : ℕ) → Cleared w v j i → i ≡ j → Cleared w v j (i + 1)
cleared_same w v j i h e = record { reduces = h.reduces; one = h.one; zeros = λ k l ne. h.zeros k (lt k l ne) ne }
  where
    lt : (k : ℕ) → k < i + 1 → (k ≡ j → ⊥) → k < i
    lt k l ne = omega arith

pub cleared_more : (w v u : List ℕ) (j i : ℕ) → j < 12 → i < 12 → Cleared w v j i → (i ≡ j → ⊥)
    → RowSet v u i 24 (added_row v i j (neg (at v i j))) → Cleared w u j (i + 1)
cleared_more w v u j i hj hi h ne set =
    record {
      reduces = reduces_trans w v u j j h.reduces next;
      one = row_other v u i 24 f set j j hj (omega arith) (λ e. ne (sym e)) ∙ h.one;
      zeros = zeros';
    }
  where
    c : ℕ
    c = neg (at v i j)

    f : ℕ → ℕ
    f = added_row v i j c

    reduced : Reduced v j
    reduced = h.reduces.reduced

    same : (l : ℕ) → l < j → f l ≡ identity i l
    same l b =
        adds_none v i j c l (identity i l) (reduced.ident i l hi b) (identity_lt P big i l)
        (reduced.ident j l hj b ∙ identity_other j l (λ e. omega arith))

    next : Reduces v u j
    next =
        record {
          reduced = keep v u j i f (omega arith) reduced (λ l b. added_lt v i j c l) same set;
          keeps = added_keeps v u i j c hj ne set;
        }

    at_i : at u i j ≡ 0
    at_i =
        set.done j (omega arith)
        ∙ ap (λ y. add (at v i j) (mul c y)) h.one
        ∙ plus_neg (at v i j) (reduced.working.canonical i j hi (omega arith))

    zeros' : (k : ℕ) → k < i + 1 → (k ≡ j → ⊥) → at u k j ≡ 0
    zeros' k b kj = go (ℕ_discrete k i)
      where
        go : Dec (k ≡ i) → at u k j ≡ 0
        go (yes e) = ap (λ y. at u y j) e ∙ at_i
        go (no e) = row_other v u i 24 f set k j (omega arith) (omega arith) e ∙ h.zeros k (omega arith) kj

pub cleared_all : (w v : List ℕ) (j : ℕ) → j < 12 → Cleared w v j 12 → Reduces w v (j + 1)
cleared_all w v j hj h =
    record { reduced = record { working = h.reduces.reduced.working; ident = id }; keeps = h.reduces.keeps }
  where
    id : (i l : ℕ) → i < 12 → l < j + 1 → at v i l ≡ identity i l
    id i l hi hl = go (ℕ_discrete l j) (ℕ_discrete i j)
      where
        go : Dec (l ≡ j) → Dec (i ≡ j) → at v i l ≡ identity i l
        go (no a) b = h.reduces.reduced.ident i l hi (omega arith)
        go (yes a) (yes b) = ap₂ (at v) b a ∙ h.one ∙ sym (identity_same j) ∙ sym (ap₂ identity b a)
        go (yes a) (no b) = ap (at v i) a ∙ h.zeros i hi b ∙ sym (identity_other i j b) ∙ sym (ap (identity i) a)
