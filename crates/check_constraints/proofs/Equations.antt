-- The 52 constraints as equations between cells: every test of a trace holds exactly where these equations do.
-- Assumes nothing.
use mathlib.Core.Path.{◌≡◌, refl, sym, ap, ◌∙◌}
use mathlib.Core.Bool.{true, false}
use mathlib.Core.List.{List}
use Prim.Native.Nat.{ℕ, ◌+◌, ◌*◌, ◌≤◌, ◌<◌}
use native.Mathlib.Decide.{dec_lt}
use native.Mathlib.Omega.{arith}
use borrow.Author.Tests.{eq-eqb, eqb-true}
use lib.Dec.{eqb}
use Rattle.lists.specs.Lists.{cell, tab}
use Rattle.lists.proofs.Tab.{cell_tab}
use Rattle.field.specs.Field.{add}
use Rattle.table.specs.Table.{initial_constant}
use Rattle.hash.specs.Hash.{plus}
use Rattle.trace.specs.Trace.{row}
use Rattle.numbers.specs.Numbers.{within}
use Rattle.check_constraints.specs.Constraints.{entering, forward, back, applies, holds, compares, of_family, families}
use Rattle.check_constraints.proofs.Families as families
use Rattle.check_constraints.proofs.Families.{Applies, applies_cases, applies_yes, under}
use Rattle.check_constraints.proofs.Families.{asked_1, asked_5, asked_9, asked_21, asked_33, asked_45, asked_49}

pub record Equations (T t claim : List ℕ) (c k : ℕ) : Type 0 where
  -- 1 to 4
  pub zero_columns : (i j : ℕ) → i < 32 * k → within i ≡ 0 → j < 4 → cell (row t i) (8 + j) ≡ 0
  -- 5 to 8
  pub new_zeros : (i j : ℕ) → i < 32 * k → entering i ≡ true → j < 4
      → cell (back T t (i + 1)) (8 + j) ≡ cell (initial_constant T) (8 + j)
  -- 9 to 20
  pub starts : (i j : ℕ) → i < 32 * k → within i ≡ 0 → j < 12
      → add (cell (row t i) j) (cell (initial_constant T) j) ≡ cell (back T t (i + 1)) j
  -- 21 to 32
  pub output_kept : (i j : ℕ) → i < 32 * k → 1 ≤ within i → within i ≤ 29 → j < 4
      → cell (forward T t i) j ≡ cell (back T t (i + 1)) j
  pub goes_on : (i j : ℕ) → i < 32 * k → 1 ≤ within i → within i ≤ 29 → entering i ≡ false → j < 12
      → cell (forward T t i) j ≡ cell (back T t (i + 1)) j
  -- 33 to 44
  pub ends : (i j : ℕ) → i < 32 * k → within i ≡ 30 → j < 12 → cell (forward T t i) j ≡ cell (row t (i + 1)) j
  -- 45 to 48
  pub joins : (i j : ℕ) → i < 32 * k → within i ≡ 31 → (i + 1 ≡ 32 * k → ⊥) → j < 4
      → cell (row t i) j ≡ cell (row t (i + 1)) j
  -- 49 to 52
  pub claims : (i j : ℕ) → i < 32 * k → i + 1 ≡ 32 * c → j < 4 → cell (row t i) j ≡ cell claim j

module _ (T t claim : List ℕ) where
  -- ---- what is compared at column j, by the constraint's number
  module _ (i j : ℕ) where
    -- a comparison of two states, at another spelling of its column
    column : (x y : List ℕ) {m n : ℕ} → m ≡ n → eqb (cell x m) (cell y m) ≡ eqb (cell x n) (cell y n)
    column x y e = ap (λ n. eqb (cell x n) (cell y n)) e

    pub at_zero_columns : j < 4 → holds T t claim i (1 + j) ≡ eqb (cell (row t i) (8 + j)) 0
    unfolding holds
    at_zero_columns h =
        asked_1 (1 + j) (compares T t claim i (1 + j)) (omega arith) (omega arith)
        ∙ column (row t i) (tab 12 (λ _. 0)) (omega arith)
        ∙ ap (eqb (cell (row t i) (8 + j))) (cell_tab 12 (λ _. 0) (8 + j) (omega arith))

    pub at_new_zeros : j < 4
        → holds T t claim i (5 + j) ≡ eqb (cell (back T t (i + 1)) (8 + j)) (cell (initial_constant T) (8 + j))
    unfolding holds
    at_new_zeros h =
        asked_5 (5 + j) (compares T t claim i (5 + j)) (omega arith) (omega arith)
        ∙ column (back T t (i + 1)) (initial_constant T) (omega arith)

    pub at_starts : j < 12
        → holds T t claim i (9 + j)
        ≡ eqb (add (cell (row t i) j) (cell (initial_constant T) j)) (cell (back T t (i + 1)) j)
    unfolding holds plus
    at_starts h =
        asked_9 (9 + j) (compares T t claim i (9 + j)) (omega arith) (omega arith)
        ∙ column (plus (row t i) (initial_constant T)) (back T t (i + 1)) (omega arith)
        ∙ ap (λ x. eqb x (cell (back T t (i + 1)) j)) (cell_tab 12 _ j h)

    pub at_goes_on : j < 12 → holds T t claim i (21 + j) ≡ eqb (cell (forward T t i) j) (cell (back T t (i + 1)) j)
    unfolding holds
    at_goes_on h =
        asked_21 (21 + j) (compares T t claim i (21 + j)) (omega arith) (omega arith)
        ∙ column (forward T t i) (back T t (i + 1)) (omega arith)

    pub at_ends : j < 12 → holds T t claim i (33 + j) ≡ eqb (cell (forward T t i) j) (cell (row t (i + 1)) j)
    unfolding holds
    at_ends h =
        asked_33 (33 + j) (compares T t claim i (33 + j)) (omega arith) (omega arith)
        ∙ column (forward T t i) (row t (i + 1)) (omega arith)

    pub at_joins : j < 4 → holds T t claim i (45 + j) ≡ eqb (cell (row t i) j) (cell (row t (i + 1)) j)
    unfolding holds
    at_joins h =
        asked_45 (45 + j) (compares T t claim i (45 + j)) (omega arith) (omega arith)
        ∙ column (row t i) (row t (i + 1)) (omega arith)

    pub at_claims : j < 4 → holds T t claim i (49 + j) ≡ eqb (cell (row t i) j) (cell claim j)
    unfolding holds
    at_claims h =
        asked_49 (49 + j) (compares T t claim i (49 + j)) (omega arith) (omega arith)
        ∙ column (row t i) claim (omega arith)

  -- only constraints 49 to 52 look at the claim
  pub claim_unread : (other : List ℕ) (i q : ℕ) → q < 49 → holds T t claim i q ≡ holds T t other i q
  unfolding holds of_family families
  claim_unread other i q h = rw (under 49 52 q h)

  -- ---- the tests hold where the equations do
  pub equations_hold : (k c : ℕ) → Equations T t claim c k → (i d : ℕ) → i < 32 * k → applies k c i d ≡ true
      → holds T t claim i d ≡ true
  equations_hold k c q i d l e = go (applies_cases k c i d e)
    where
      go : Applies k c i d → holds T t claim i d ≡ true
      go (families.zero_columns j h n r) =
          ap (holds T t claim i) n ∙ at_zero_columns i j h ∙ eq-eqb _ _ (q.zero_columns i j l r h)
      go (families.new_zeros j h n r) =
          ap (holds T t claim i) n ∙ at_new_zeros i j h ∙ eq-eqb _ _ (q.new_zeros i j l r h)
      go (families.starts j h n r) = ap (holds T t claim i) n ∙ at_starts i j h ∙ eq-eqb _ _ (q.starts i j l r h)
      go (families.output_kept j h n r s) =
          ap (holds T t claim i) n ∙ at_goes_on i j (omega arith) ∙ eq-eqb _ _ (q.output_kept i j l r s h)
      go (families.goes_on j f h n r s m) =
          ap (holds T t claim i) n ∙ at_goes_on i j h ∙ eq-eqb _ _ (q.goes_on i j l r s m h)
      go (families.ends j h n r) = ap (holds T t claim i) n ∙ at_ends i j h ∙ eq-eqb _ _ (q.ends i j l r h)
      go (families.joins j h n r m) = ap (holds T t claim i) n ∙ at_joins i j h ∙ eq-eqb _ _ (q.joins i j l r m h)
      go (families.claims j h n r) = ap (holds T t claim i) n ∙ at_claims i j h ∙ eq-eqb _ _ (q.claims i j l r h)

  -- ---- and the equations hold where the tests do
  pub hold_equations : (k c : ℕ) → ((i d : ℕ) → i < 32 * k → applies k c i d ≡ true → holds T t claim i d ≡ true)
      → Equations T t claim c k
  hold_equations k c a = record {
    zero_columns =
        λ i j l r h. eqb-true _ _ (sym (at_zero_columns i j h) ∙ test i (1 + j) l (families.zero_columns j h refl r));
    new_zeros = λ i j l r h. eqb-true _ _ (sym (at_new_zeros i j h) ∙ test i (5 + j) l (families.new_zeros j h refl r));
    starts = λ i j l r h. eqb-true _ _ (sym (at_starts i j h) ∙ test i (9 + j) l (families.starts j h refl r));
    output_kept = λ i j l r s h. eqb-true _ _
        (sym (at_goes_on i j (omega arith)) ∙ test i (21 + j) l (families.output_kept j h refl r s));
    goes_on =
        λ i j l r s m h. eqb-true _ _ (sym (at_goes_on i j h) ∙ test i (21 + j) l (column i j (dec_lt j 4) h r s m));
    ends = λ i j l r h. eqb-true _ _ (sym (at_ends i j h) ∙ test i (33 + j) l (families.ends j h refl r));
    joins = λ i j l r m h. eqb-true _ _ (sym (at_joins i j h) ∙ test i (45 + j) l (families.joins j h refl r m));
    claims = λ i j l r h. eqb-true _ _ (sym (at_claims i j h) ∙ test i (49 + j) l (families.claims j h refl r));
  }
    where
      test : (i d : ℕ) → i < 32 * k → Applies k c i d → holds T t claim i d ≡ true
      test i d l y = a i d l (applies_yes k c i d y)

      column : (i j : ℕ) → Dec (j < 4) → j < 12 → 1 ≤ within i → within i ≤ 29 → entering i ≡ false
          → Applies k c i (21 + j)
      column i j (yes b) h r s m = families.output_kept j b refl r s
      column i j (no b) h r s m = families.goes_on j (omega arith) h refl r s m
