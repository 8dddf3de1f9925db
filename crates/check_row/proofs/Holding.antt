-- Each constraint as the code tests it: forward of the row and back of the next, where the code computes them, and the
-- words that it compares are those of the definition.
-- Assumes nothing.
use mathlib.Core.Path.{◌≡◌, refl, sym, ap, ap₂, ◌∙◌, subst}
use mathlib.Core.Bool.{Bool, true, false}
use mathlib.Core.Logic.{⊎_elim}
use mathlib.Core.List.{List}
use Prim.Native.Nat.{ℕ, ◌+◌, ◌*◌, ◌-◌, ◌≤◌, ◌<◌}
use native.Mathlib.Omega.{arith}
use borrow.Author.Tests.{le-leb, lt-leb}
use lib.Dec.{eqb}
use lib.ListN.{replicate}
use Rattle.lists.specs.Lists.{choose, cell}
use Rattle.field.specs.Field.{add}
use Rattle.numbers.specs.Numbers.{within}
use Rattle.table.specs.Table.{initial_constant}
use Rattle.trace.specs.Trace.{row}
use Rattle.check_constraints.specs.Constraints.{entering, forward, back, holds}
use Rattle.check_constraints.proofs.Families.{Applies, zero_columns, new_zeros, starts, output_kept, goes_on}
use Rattle.check_constraints.proofs.Families.{ends, joins}
use Rattle.check_constraints.proofs.Families.{claims, applies_cases}
use Rattle.check_constraints.proofs.Equations.{at_zero_columns, at_new_zeros, at_starts, at_goes_on, at_ends, at_joins}
use Rattle.check_constraints.proofs.Equations.{at_claims}
use Rattle.check_constraints.proofs.ForwardBack.{enters_at}
use Rattle.check_applies.specs.ComparedHelpers.{At}
use Rattle.trace_rows.specs.RowHelpers.{HasRow, tested_columns}
use Rattle.check_steps.specs.StepHelpers.{columns}
use Rattle.check_steps.proofs.Made.{cell_before}
use Rattle.check_row.specs.TestHelpers.{forward_of, back_after, InTrace, AppliesIn}

-- ---- where a constraint applies
record Placed (k i q : ℕ) : Type 0 where
  low : 1 ≤ q
  high : q < 53
  behind : 5 ≤ q → q < 33 → within i ≤ 29
  ahead : 21 ≤ q → q < 45 → (1 ≤ within i) × (within i ≤ 30)
  next : 33 ≤ q → q < 49 → i < 32 * k → i + 1 < 32 * k
  -- the column of constraints 21 to 44 is a tested one
  kept : (j : ℕ) → q ≡ 21 + j → q < 33 → (j < 12) × (j < tested_columns i)
  last : (j : ℕ) → q ≡ 33 + j → q < 45 → (j < 12) × (j < tested_columns i)

four_tested : (i : ℕ) → 4 ≤ tested_columns i
four_tested i = go (entering i)
  where
    go : (b : Bool) → 4 ≤ choose b 4 12
    go true = omega arith
    go false = omega arith

all_tested : (i : ℕ) → entering i ≡ false → tested_columns i ≡ 12
all_tested i e = rw e refl

not_entering : (i : ℕ) → within i ≡ 30 → entering i ≡ false
not_entering i e = rw e refl

placed : (k c i q : ℕ) → Applies k c i q → Placed k i q
placed k c i q (zero_columns j l e r) = omega arith
placed k c i q (new_zeros j l e r) = ⊎_elim (λ h. omega arith) (λ h. omega arith) (enters_at i r)
placed k c i q (starts j l e r) = omega arith
placed k c i q (output_kept j l e r s) = omega (arith, four_tested i)
placed k c i q (goes_on j f l e r s n) = omega (arith, all_tested i n)
placed k c i q (ends j l e r) = omega (arith, all_tested i (not_entering i r))
placed k c i q (joins j l e r n) = record {
  low = omega arith;
  high = omega arith;
  behind = omega arith;
  ahead = omega arith;
  next = λ p q h. omega (arith, n);
  kept = omega arith;
  last = omega arith;
}
placed k c i q (claims j l e r) = omega arith

-- the row is there, and so is the next of its batch
pub has_row : {t : List ℕ} {i : ℕ} → InTrace t i → HasRow t i
has_row h = record {
  canonical = h.canonical;
  inside = omega (arith, h.size, h.inside);
  small = omega (arith, h.few, h.inside);
}

pub has_next : {t : List ℕ} {i n : ℕ} → n ≡ i + 1 → InTrace t i → within i ≤ 29 → HasRow t n
has_next e h w = record {
  canonical = h.canonical;
  inside = omega (arith, h.size, h.inside);
  small = omega (arith, h.few, h.inside);
}

pub next_within : (i : ℕ) {n : ℕ} → n ≡ i + 1 → within i ≤ 29 → 1 ≤ within n
next_within i e h = omega arith

-- ---- forward and back where the code computes them, w being the row's number within its batch
module _ (T t : List ℕ) (i : ℕ) {w : ℕ} (e : w ≡ within i) where
  pub no_forward_0 : w < 1 → replicate 12 0 ≡ forward_of T t i
  unfolding forward_of
  no_forward_0 h = rw (lt-leb 1 (within i) (subst (λ x. x < 1) e h))

  pub no_forward_31 : 30 < w → replicate 12 0 ≡ forward_of T t i
  unfolding forward_of
  no_forward_31 h = rw (le-leb 1 (within i) (omega arith), lt-leb (within i) 30 (subst (λ x. 30 < x) e h))

  pub some_forward : 1 ≤ w → w ≤ 30 → {f : List ℕ} → f ≡ columns (tested_columns i) (forward T t i)
      → f ≡ forward_of T t i
  unfolding forward_of
  some_forward p q f =
      rw (le-leb 1 (within i) (subst (λ x. 1 ≤ x) e p), le-leb (within i) 30 (subst (λ x. x ≤ 30) e q)) f

  pub no_back : 29 < w → replicate 12 0 ≡ back_after T t i
  unfolding back_after
  no_back h = rw (lt-leb (within i) 29 (subst (λ x. 29 < x) e h))

  pub some_back : w ≤ 29 → {n : ℕ} → n ≡ i + 1 → {b : List ℕ} → b ≡ back T t n → b ≡ back_after T t i
  unfolding back_after
  some_back h n b = rw (le-leb (within i) 29 (subst (λ x. x ≤ 29) e h)) (b ∙ ap (back T t) n)

module _ {t : List ℕ} {i q : ℕ} (h : AppliesIn t i q) where
  found : Placed h.place.k i q
  found = placed h.place.k h.c i q (applies_cases h.place.k h.c i q h.applied)

  pub from_one : 1 ≤ q
  from_one = found.low

  pub to_last : q < 53
  to_last = found.high

  pub this_row : HasRow t i
  this_row = has_row h.place

  -- constraints 33 to 48 compare with the next row, which is there
  pub next_row : {n : ℕ} → n ≡ i + 1 → 33 ≤ q → q < 49 → HasRow t n
  next_row e l u =
      let n = found.next l u h.place.inside in
      record {
        canonical = h.place.canonical;
        inside = omega (arith, h.place.size);
        small = omega (arith, h.place.few);
      }

module _ (T t : List ℕ) {i q : ℕ} (h : AppliesIn t i q) where
  is_forward : {f : List ℕ} → f ≡ forward_of T t i → 21 ≤ q → q < 45 → (j : ℕ) → (j < 12) × (j < tested_columns i)
      → cell f j ≡ cell (forward T t i) j
  unfolding forward_of
  is_forward {f} e l u j b =
      let a = (found h).ahead l u in
      let made : f ≡ columns (tested_columns i) (forward T t i) =
      e ∙ rw (le-leb 1 (within i) a.0, le-leb (within i) 30 a.1) refl in
      ap (λ x. cell x j) made ∙ cell_before (tested_columns i) (forward T t i) j b.0 b.1

  is_back : {b : List ℕ} → b ≡ back_after T t i → 5 ≤ q → q < 33 → (j : ℕ) → cell b j ≡ cell (back T t (i + 1)) j
  unfolding back_after
  is_back {b} e l u j =
      let made : b ≡ back T t (i + 1) = e ∙ rw (le-leb (within i) 29 ((found h).behind l u)) refl in
      ap (λ x. cell x j) made

-- ---- what it compares, j being the column, f forward of the row and b back of the next, and x, y, k, s what is read
-- and added
module _ (T t claim : List ℕ) {i q : ℕ} (h : AppliesIn t i q) where
  -- a test by its constraint's number, from what the definition compares there
  from : (n : ℕ) {v w : Bool} → q ≡ n → holds T t claim i n ≡ w → v ≡ w → v ≡ holds T t claim i q
  from n p d e = e ∙ sym (ap (holds T t claim i) p ∙ d)

  module _ {j : ℕ} where
    pub holds_zeros : At 1 4 8 q j → {x : ℕ} → x ≡ cell (row t i) j → eqb x 0 ≡ holds T t claim i q
    holds_zeros a e =
        from (1 + (q - 1)) (omega arith) (at_zero_columns T t claim i (q - 1) (omega arith))
        (ap (λ x. eqb x 0) (e ∙ ap (cell (row t i)) a.2))

    module _ {f b : List ℕ} (at_forward : f ≡ forward_of T t i) (at_back : b ≡ back_after T t i) where
      pub holds_new_zeros : At 5 8 8 q j → {k : List ℕ} → k ≡ initial_constant T
          → eqb (cell b j) (cell k j) ≡ holds T t claim i q
      holds_new_zeros a k =
          from (5 + (q - 5)) (omega arith) (at_new_zeros T t claim i (q - 5) (omega arith))
          (ap₂ eqb (is_back T t h at_back (omega arith) (omega arith) j ∙ ap (cell (back T t (i + 1))) a.2)
          (ap₂ cell k a.2))

      pub holds_starts : At 9 20 0 q j → {x s : ℕ} {k : List ℕ} → x ≡ cell (row t i) j → k ≡ initial_constant T
          → s ≡ add x (cell k j) → eqb s (cell b j) ≡ holds T t claim i q
      holds_starts a x k s =
          from (9 + j) (omega arith) (at_starts T t claim i j (omega arith))
          (ap₂ eqb (s ∙ ap₂ add x (ap (λ k. cell k j) k)) (is_back T t h at_back (omega arith) (omega arith) j))

      pub holds_goes_on : At 21 32 0 q j → eqb (cell f j) (cell b j) ≡ holds T t claim i q
      holds_goes_on a =
          from (21 + j) (omega arith) (at_goes_on T t claim i j (omega arith))
          (ap₂ eqb
          (is_forward T t h at_forward (omega arith) (omega arith) j ((found h).kept j (omega arith) (omega arith)))
          (is_back T t h at_back (omega arith) (omega arith) j))

      pub holds_ends : At 33 44 0 q j → {n x : ℕ} → n ≡ i + 1 → x ≡ cell (row t n) j
          → eqb (cell f j) x ≡ holds T t claim i q
      holds_ends a n e =
          from (33 + j) (omega arith) (at_ends T t claim i j (omega arith))
          (ap₂ eqb
          (is_forward T t h at_forward (omega arith) (omega arith) j ((found h).last j (omega arith) (omega arith)))
          (e ∙ ap (λ m. cell (row t m) j) n))

    pub holds_joins : At 45 48 0 q j → {n x y : ℕ} → n ≡ i + 1 → x ≡ cell (row t i) j → y ≡ cell (row t n) j
        → eqb x y ≡ holds T t claim i q
    holds_joins a n d e =
        from (45 + j) (omega arith) (at_joins T t claim i j (omega arith))
        (ap₂ eqb d (e ∙ ap (λ m. cell (row t m) j) n))

    pub holds_claims : At 49 52 0 q j → {x : ℕ} → x ≡ cell (row t i) j → eqb x (cell claim j) ≡ holds T t claim i q
    holds_claims a e =
        from (49 + j) (omega arith) (at_claims T t claim i j (omega arith)) (ap (λ x. eqb x (cell claim j)) e)
