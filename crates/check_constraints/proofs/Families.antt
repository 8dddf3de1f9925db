-- The seven families of document 01's list: a constraint's number decides its family (`asked_1` to `asked_49`), and so
-- where it applies, as cases by row and column.
-- Assumes nothing.
use mathlib.Core.Path.{◌≡◌, refl, sym, ap, ◌∙◌}
use mathlib.Core.Bool.{Bool, true, false, ◌&&◌, ◌||◌, not, or-true, true≢false}
use mathlib.Core.Logic.{◌⊎◌, inl, inr, ⊎_elim}
use mathlib.Core.List.{List, [], ◌∷◌}
use Prim.Native.Nat.{ℕ, ◌+◌, ◌*◌, ◌-◌, ◌≤◌, ◌<◌}
use native.Mathlib.Nat.{zero-add}
use native.Mathlib.Decide.{dec_lt}
use native.Mathlib.Omega.{arith}
use borrow.Author.Tests.{le-leb, lt-leb, leb-true, eq-eqb, ne_eqb, eqb-true, eqb-false, lt-ltb, ltb-true, not-true}
use lib.Dec.{leb, ltb, eqb}
use Rattle.lists.specs.Lists.{choose}
use Rattle.lists.proofs.Bools.{or_cases, and_both, and_intro}
use Rattle.numbers.specs.Numbers.{within}
use Rattle.check_constraints.specs.Constraints.{entering, between, last_row, claim_row, applies}
use Rattle.check_constraints.specs.Constraints.{Family, family, families, column_of, of_family}
use Rattle.check_constraints.specs.Constraints.{at_row, at_entering, at_middle, at_joint, at_claim}
use Rattle.check_constraints.specs.Constraints.{zero_state, initial, this, this_plus_initial, forward_of_this, next}
use Rattle.check_constraints.specs.Constraints.{back_of_next, claimed}

-- ---- a number between two, or not
pub range : (a b n : ℕ) → between a b n ≡ true → (a ≤ n) × (n ≤ b)
range a b n e =
    let s = and_both (leb a n) (leb n b) e in
    (leb-true a n s.0, leb-true n b s.1)

pub in_range : (a b n : ℕ) → a ≤ n → n ≤ b → between a b n ≡ true
in_range a b n p q = and_intro (leb a n) (leb n b) (le-leb a n p) (le-leb n b q)

pub under : (a b n : ℕ) → n < a → between a b n ≡ false
under a b n p = rw (lt-leb a n p)

pub over : (a b n : ℕ) → b < n → between a b n ≡ false
over a b n p = rw (lt-leb n b p) (no (leb a n))
  where
    no : (x : Bool) → (x && false) ≡ false
    no true = refl
    no false = refl

-- which is not from 1 on
pub outside : (b n : ℕ) → between 1 b n ≡ false → (n ≡ 0) ⊎ (b < n)
outside b n e = go (dec_lt n 1) (dec_lt b n)
  where
    go : Dec (n < 1) → Dec (b < n) → (n ≡ 0) ⊎ (b < n)
    go (yes l) h = inl (omega arith)
    go (no l) (yes h) = inr h
    go (no l) (no h) = absurd (true≢false (sym (in_range 1 b n (omega arith) (omega arith)) ∙ e))

-- ---- the family of constraint q
module _ (q : ℕ) (answer : Family → Bool) where
  pub asked_1 : 1 ≤ q → q ≤ 4 → of_family q answer families ≡ answer (family 1 4 (at_row 0) this zero_state 8)
  unfolding of_family families
  asked_1 l h = rw (in_range 1 4 q l h)

  pub asked_5 : 4 < q → q ≤ 8 → of_family q answer families ≡ answer (family 5 8 at_entering back_of_next initial 8)
  unfolding of_family families
  asked_5 l h = rw (over 1 4 q l, in_range 5 8 q l h)

  pub asked_9 : 8 < q → q ≤ 20 → of_family q answer families ≡ answer (family 9 20 (at_row 0) this_plus_initial back_of_next
      0)
  unfolding of_family families
  asked_9 l h = rw (over 1 4 q (omega arith), over 5 8 q l, in_range 9 20 q l h)

  pub asked_21 : 20 < q → q ≤ 32
      → of_family q answer families ≡ answer (family 21 32 at_middle forward_of_this back_of_next 0)
  unfolding of_family families
  asked_21 l h = rw (over 1 4 q (omega arith), over 5 8 q (omega arith), over 9 20 q l, in_range 21 32 q l h)

  pub asked_33 : 32 < q → q ≤ 44 → of_family q answer families ≡ answer (family 33 44 (at_row 30) forward_of_this next 0)
  unfolding of_family families
  asked_33 l h =
      rw (
        over 1 4 q (omega arith),
        over 5 8 q (omega arith),
        over 9 20 q (omega arith),
        over 21 32 q l,
        in_range 33 44 q l h,
      )

  pub asked_45 : 44 < q → q ≤ 48 → of_family q answer families ≡ answer (family 45 48 at_joint this next 0)
  unfolding of_family families
  asked_45 l h =
      rw (
        over 1 4 q (omega arith),
        over 5 8 q (omega arith),
        over 9 20 q (omega arith),
        over 21 32 q (omega arith),
        over 33 44 q l,
        in_range 45 48 q l h,
      )

  pub asked_49 : 48 < q → q ≤ 52 → of_family q answer families ≡ answer (family 49 52 at_claim this claimed 0)
  unfolding of_family families
  asked_49 l h =
      rw (
        over 1 4 q (omega arith),
        over 5 8 q (omega arith),
        over 9 20 q (omega arith),
        over 21 32 q (omega arith),
        over 33 44 q (omega arith),
        over 45 48 q l,
        in_range 49 52 q l h,
      )

  -- a yes comes from a family that has the number
  abbrev Yes : List Family → Type 0
  Yes [] = ⊥
  Yes (f ∷ fs) = ((f.first ≤ q) × (q ≤ f.last) × (answer f ≡ true)) ⊎ Yes fs

  from_family : (fs : List Family) → of_family q answer fs ≡ true → Yes fs
  unfolding of_family
  from_family [] e = absurd (true≢false (sym e))
  from_family (f ∷ fs) e = go (between f.first f.last q) refl e (from_family fs)
    where
      go : (b : Bool) → between f.first f.last q ≡ b → choose b (answer f) (of_family q answer fs) ≡ true
          → (of_family q answer fs ≡ true → Yes fs) → Yes (f ∷ fs)
      go true e a later =
          let r = range f.first f.last q e in
          inl (r.0, r.1, a)
      go false e a later = inr (later a)

-- ---- constraint q applies at row i of k batches with a claim about c of them, at column j
pub data Applies (k c i q : ℕ) : Type 0 where
  zero_columns : (j : ℕ) → j < 4 → q ≡ 1 + j → within i ≡ 0 → Applies k c i q
  new_zeros : (j : ℕ) → j < 4 → q ≡ 5 + j → entering i ≡ true → Applies k c i q
  starts : (j : ℕ) → j < 12 → q ≡ 9 + j → within i ≡ 0 → Applies k c i q
  output_kept : (j : ℕ) → j < 4 → q ≡ 21 + j → 1 ≤ within i → within i ≤ 29 → Applies k c i q
  goes_on : (j : ℕ) → 4 ≤ j → j < 12 → q ≡ 21 + j → 1 ≤ within i → within i ≤ 29 → entering i ≡ false → Applies k c i q
  ends : (j : ℕ) → j < 12 → q ≡ 33 + j → within i ≡ 30 → Applies k c i q
  joins : (j : ℕ) → j < 4 → q ≡ 45 + j → within i ≡ 31 → (i + 1 ≡ 32 * k → ⊥) → Applies k c i q
  claims : (j : ℕ) → j < 4 → q ≡ 49 + j → i + 1 ≡ 32 * c → Applies k c i q

module _ (k c i q : ℕ) where
  -- whether constraint q applies, by its family
  abbrev At : Family → Bool
  At f = f.rows k c i (column_of f q)

  -- at rows 10 and 20 the column is one of the first four
  middle : (j : ℕ) → Dec (j < 4) → j < 12 → q ≡ 21 + j → 1 ≤ within i → within i ≤ 29
      → (not (entering i) || ltb j 4) ≡ true → Applies k c i q
  middle j (yes h) l e a b s = output_kept j h e a b
  middle j (no h) l e a b s =
      goes_on j (omega arith) l e a b
      (not-true _ (⊎_elim (λ x. x) (λ x. absurd (h (ltb-true j 4 x))) (or_cases (not (entering i)) (ltb j 4) s)))

  pub applies_cases : applies k c i q ≡ true → Applies k c i q
  unfolding applies families
  applies_cases e = go (from_family q At families e)
    where
      go : Yes q At families → Applies k c i q
      go (inl s) = zero_columns (q - 1) (omega arith) (omega arith) (eqb-true _ _ s.2)
      go (inr (inl s)) = new_zeros (q - 5) (omega arith) (omega arith) s.2
      go (inr (inr (inl s))) = starts (q - 9) (omega arith) (omega arith) (eqb-true _ _ s.2)
      go (inr (inr (inr (inl s)))) =
          let v = and_both (between 1 29 (within i)) (not (entering i) || ltb (0 + (q - 21)) 4) s.2 in
          let r = range 1 29 (within i) v.0 in
          middle (0 + (q - 21)) (dec_lt (0 + (q - 21)) 4) (omega arith) (omega arith) r.0 r.1 v.1
      go (inr (inr (inr (inr (inl s))))) = ends (q - 33) (omega arith) (omega arith) (eqb-true _ _ s.2)
      go (inr (inr (inr (inr (inr (inl s)))))) =
          let v = and_both (eqb (within i) 31) (not (last_row k i)) s.2 in
          joins (q - 45) (omega arith) (omega arith) (eqb-true _ _ v.0) (eqb-false _ _ (not-true _ v.1))
      go (inr (inr (inr (inr (inr (inr (inl s))))))) =
          claims (q - 49) (omega arith) (omega arith) (eqb-true _ _ s.2)
      go (inr (inr (inr (inr (inr (inr (inr x7))))))) = elim x7 [ ]

  -- the rows of each family
  pub applies_zeros : 1 ≤ q → q < 5 → applies k c i q ≡ eqb (within i) 0
  unfolding applies
  applies_zeros l h = asked_1 q At l (omega arith)

  pub applies_new_zeros : 5 ≤ q → q < 9 → applies k c i q ≡ entering i
  unfolding applies
  applies_new_zeros l h = asked_5 q At l (omega arith)

  pub applies_starts : 9 ≤ q → q < 21 → applies k c i q ≡ eqb (within i) 0
  unfolding applies
  applies_starts l h = asked_9 q At l (omega arith)

  pub applies_middle : 21 ≤ q → q < 33
      → applies k c i q ≡ (between 1 29 (within i) && (not (entering i) || ltb (q - 21) 4))
  unfolding applies
  applies_middle l h =
      asked_21 q At l (omega arith)
      ∙ ap (λ j. between 1 29 (within i) && (not (entering i) || ltb j 4)) (zero-add (q - 21))

  pub applies_ends : 33 ≤ q → q < 45 → applies k c i q ≡ eqb (within i) 30
  unfolding applies
  applies_ends l h = asked_33 q At l (omega arith)

  pub applies_joins : 45 ≤ q → q < 49 → applies k c i q ≡ (eqb (within i) 31 && not (last_row k i))
  unfolding applies
  applies_joins l h = asked_45 q At l (omega arith)

  pub applies_claims : 49 ≤ q → q < 53 → applies k c i q ≡ claim_row c i
  unfolding applies
  applies_claims l h = asked_49 q At l (omega arith)

  pub applies_yes : Applies k c i q → applies k c i q ≡ true
  applies_yes (zero_columns j l e r) = applies_zeros (omega arith) (omega arith) ∙ eq-eqb (within i) 0 r
  applies_yes (new_zeros j l e r) = applies_new_zeros (omega arith) (omega arith) ∙ r
  applies_yes (starts j l e r) = applies_starts (omega arith) (omega arith) ∙ eq-eqb (within i) 0 r
  applies_yes (output_kept j l e r s) =
      applies_middle (omega arith) (omega arith)
      ∙ simp (in_range 1 29 (within i) r s, lt-ltb (q - 21) 4 (omega arith), or-true)
  applies_yes (goes_on j f l e r s n) =
      applies_middle (omega arith) (omega arith) ∙ simp (in_range 1 29 (within i) r s, n)
  applies_yes (ends j l e r) = applies_ends (omega arith) (omega arith) ∙ eq-eqb (within i) 30 r
  applies_yes (joins j l e r n) =
      applies_joins (omega arith) (omega arith) ∙ simp (eq-eqb (within i) 31 r, ne_eqb (i + 1) (32 * k) n)
  applies_yes (claims j l e r) = applies_claims (omega arith) (omega arith) ∙ eq-eqb (i + 1) (32 * c) r
