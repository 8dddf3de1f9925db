-- Forward and back of a row, by the hash h and the round j whose middle state it is to hold: row `first_row h + j`.
-- Assumes nothing.
use mathlib.Core.Path.{◌≡◌, sym, ap, ◌∙◌}
use mathlib.Core.Bool.{true, false, or-true}
use mathlib.Core.Logic.{◌⊎◌, inl, inr, ⊎_map, ⊎_elim}
use mathlib.Core.List.{List}
use Prim.Native.Nat.{ℕ, ◌+◌, ◌*◌, ◌-◌, ◌/◌, ◌%◌, ◌≤◌, ◌<◌}
use native.Mathlib.Decide.{ℕ_discrete}
use native.Mathlib.Omega.{arith}
use borrow.Author.Tests.{eq-eqb, ne_eqb, eqb-true, lt-ltb, le-ltb}
use lib.Dec.{eqb}
use lib.ListN.{length}
use Rattle.lists.specs.Lists.{cell}
use Rattle.lists.proofs.Tab.{length_tab, cell_tab}
use Rattle.lists.proofs.Bools.{or_cases}
use Rattle.field.specs.Field.{add}
use Rattle.table.specs.Table.{IsTable, initial_constant}
use Rattle.hash.specs.Hash.{first_step, second_step}
use Rattle.hash.proofs.States.{IsState}
use Rattle.trace.specs.Trace.{row}
use Rattle.numbers.specs.Numbers.{within}
use Rattle.check_constraints.specs.Constraints.{round, entering, plus_first, forward, back_step, back}
use Rattle.numbers.specs.Numbers.{first_row}
use Rattle.check_constraints.proofs.OneRound.{first_back, back_step_state}

-- ---- rows 10 and 20
pub enters : (i : ℕ) → (within i ≡ 10) ⊎ (within i ≡ 20) → entering i ≡ true
enters i (inl e) = rw (eq-eqb (within i) 10 e)
enters i (inr e) = simp (eq-eqb (within i) 20 e, or-true)

pub enters_at : (i : ℕ) → entering i ≡ true → (within i ≡ 10) ⊎ (within i ≡ 20)
enters_at i e =
    ⊎_map (eqb-true (within i) 10) (eqb-true (within i) 20) (or_cases (eqb (within i) 10) (eqb (within i) 20) e)

pub enters_not : (i : ℕ) → (within i ≡ 10 → ⊥) → (within i ≡ 20 → ⊥) → entering i ≡ false
enters_not i p q = rw (ne_eqb (within i) 10 p, ne_eqb (within i) 20 q)

pub enters_not_at : (i : ℕ) → entering i ≡ false → (within i ≡ 10) ⊎ (within i ≡ 20) → ⊥
enters_not_at i e r =
    let f = enters i r in
    let z : ◌≡◌ {A = ℕ} 0 1 = cc in
    omega arith

-- ---- row `first_row h + j`
pub within_of : (h j : ℕ) → j < 10 → within (first_row h + j) ≡ 10 * (h % 3) + 1 + j
within_of h j l = omega arith

round_of : (h j : ℕ) → j < 10 → round (first_row h + j) ≡ j
round_of h j l = ap (λ r. (r - 1) % 10) (within_of h j l) ∙ e
  where
    e : (10 * (h % 3) + 1 + j - 1) % 10 ≡ j
    e = omega arith

-- the rows at which a tap enters are the last ones of a batch's first and second hash
pub entering_row : (h : ℕ) → (h % 3 ≡ 2 → ⊥) → entering (first_row h + 9) ≡ true
entering_row h e = go (ℕ_discrete (h % 3) 0)
  where
    go : Dec (h % 3 ≡ 0) → entering (first_row h + 9) ≡ true
    go (yes z) = enters (first_row h + 9) (inl (omega (arith, within_of h 9 (omega arith))))
    go (no z) = enters (first_row h + 9) (inr (omega (arith, within_of h 9 (omega arith))))

pub entering_hash : (i : ℕ) → entering i ≡ true → (h : ℕ) × (h % 3 ≡ 2 → ⊥) × (i ≡ first_row h + 9)
entering_hash i e =
    ⊎_elim (λ (z : within i ≡ 10). (3 * (i / 32), (λ x. omega arith), omega arith))
    (λ (z : within i ≡ 20). (3 * (i / 32) + 1, (λ x. omega arith), omega arith)) (enters_at i e)

-- a row of 1 to 29 at which none enters is followed by one of the same hash
pub round_hash : (i : ℕ) → 1 ≤ within i → within i ≤ 29 → entering i ≡ false
    → (h : ℕ) × (j : ℕ) × (j < 9) × (i ≡ first_row h + j)
round_hash i p q e =
    let ten : within i ≡ 10 → ⊥ = λ z. enters_not_at i e (inl z) in
    let twenty : within i ≡ 20 → ⊥ = λ z. enters_not_at i e (inr z) in
    (3 * (i / 32) + (within i - 1) / 10, (within i - 1) % 10, omega arith, omega arith)

-- ---- the first columns of a state plus those of another
pub length_first : (n : ℕ) (s k : List ℕ) → length (plus_first n s k) ≡ 12
unfolding plus_first
length_first n s k = length_tab 12 _

module _ (n : ℕ) (s k : List ℕ) (j : ℕ) (h : j < 12) where
  pub cell_plus_first : j < n → cell (plus_first n s k) j ≡ add (cell s j) (cell k j)
  unfolding plus_first
  cell_plus_first l = cell_tab 12 _ j h ∙ rw (lt-ltb j n l)

  pub cell_plus_kept : n ≤ j → cell (plus_first n s k) j ≡ cell s j
  unfolding plus_first
  cell_plus_kept l = cell_tab 12 _ j h ∙ rw (le-ltb j n l)

-- ---- forward and back
pub back_state : (T t : List ℕ) (i : ℕ) → IsState (back T t i)
unfolding back
back_state T t i = back_step_state T (round i) (row t i)

module _ (T t : List ℕ) (h j : ℕ) (l : j < 10) where
  pub back_is : back T t (first_row h + j) ≡ back_step T j (row t (first_row h + j))
  unfolding back
  back_is = ap (λ r. back_step T r (row t (first_row h + j))) (round_of h j l)

  -- forward where no tap enters
  pub forward_is : entering (first_row h + j) ≡ false
      → forward T t (first_row h + j) ≡ second_step T j (row t (first_row h + j))
  unfolding forward
  forward_is e = rw (e, round_of h j l)

  -- and columns 0 to 3 where one does
  pub forward_enters : entering (first_row h + j) ≡ true → (c : ℕ) → c < 4
      → cell (forward T t (first_row h + j)) c
      ≡ add (cell (second_step T j (row t (first_row h + j))) c) (cell (initial_constant T) c)
  unfolding forward
  forward_enters e c q =
      rw (e, round_of h j l)
      (cell_plus_first 4 (second_step T j (row t (first_row h + j))) (initial_constant T) c (omega arith) q)

  -- a row is the first step from its back
  pub row_from_back : IsTable T → IsState (row t (first_row h + j))
      → row t (first_row h + j) ≡ first_step T j (back T t (first_row h + j))
  row_from_back accepted s = sym (ap (first_step T j) back_is ∙ first_back T accepted j l s)
