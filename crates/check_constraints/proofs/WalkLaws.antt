-- The walk accepts exactly where every test holds; else it names the first test that fails, and its place.
-- Assumes nothing.
use mathlib.Core.Path.{◌≡◌, refl, sym, ap, ◌∙◌, subst, subst₃}
use mathlib.Core.Bool.{Bool, true, false, true≢false}
use mathlib.Core.Logic.{◌⊎◌, inl, inr}
use mathlib.Core.List.Memᴰ
use mathlib.Core.List.{List, [], ◌∷◌, ◌++◌, Memᴰ}
use Prim.Native.Nat.{ℕ, suc, ◌+◌}
use native.Mathlib.Omega.{arith}
use lib.ListN.{length}
use Rattle.std.specs.Prelude.{Ok, Err}
use Rattle.numbers.specs.declared.RowNumber.{RowNumber}
use Rattle.refusals.specs.declared.Refusal.TheVariants.{Constraint}
use Rattle.refusals.specs.Answers.{Answer, unless}
use Rattle.refusals.proofs.Laws.{not_accepted}
use Rattle.check_constraints.specs.Constraints.{Test, holds, tests, walk, constraint_test}
use Rattle.check_constraints.specs.FirstFailing.{AllHold, IsFirstFailing}
use Rattle.check_constraints.proofs.TestList.{in_middle}

module _ (T t claim : List ℕ) where
  none_to_hold : AllHold T t claim []
  none_to_hold x m = absurd (Memᴰ.not-nil m)

  one_more_holds : (x : Test) (xs : List Test) → holds T t claim x.at x.number ≡ true → AllHold T t claim xs
      → AllHold T t claim (x ∷ xs)
  one_more_holds x xs e a y m = go (Memᴰ.cases_cons m)
    where
      go : (y ≡ x) ⊎ Memᴰ y xs → holds T t claim y.at y.number ≡ true
      go (inl p) = ap (λ z. holds T t claim z.at z.number) p ∙ e
      go (inr p) = a y p

  -- a walk over xs after n tests comes to one of these two ends
  pub data Ends (xs : List Test) (n : ℕ) : Answer → Type 0 where
    passes : AllHold T t claim xs → Ends xs n (Ok tt)
    stops : (i q place : ℕ) → IsFirstFailing T t claim xs i q place → (m : ℕ) → m ≡ n + place
        → Ends xs n (Err (Constraint (record { 0 = i }) q m))

  one_more_end : (x : Test) (xs : List Test) (n : ℕ) (r : Answer) → holds T t claim x.at x.number ≡ true
      → Ends xs (n + 1) r → Ends (x ∷ xs) n r
  one_more_end x xs n r e (passes a) = passes (one_more_holds x xs e a)
  one_more_end x xs n r e (stops i q place f m p) =
      stops i q (place + 1)
      (record {
        before = x ∷ f.before;
        after = f.after;
        order = ap (λ l. x ∷ l) f.order;
        passed = one_more_holds x f.before e f.passed;
        fails = f.fails;
        place = omega (arith, f.place);
      })
      m (omega arith)

  pub walk_ends : (xs : List Test) (n : ℕ) → Ends xs n (walk T t claim xs n)
  unfolding walk
  walk_ends [] n = passes none_to_hold
  walk_ends (x ∷ xs) n = go (holds T t claim x.at x.number) refl (walk_ends xs (n + 1))
    where
      go : (b : Bool) → holds T t claim x.at x.number ≡ b → Ends xs (n + 1) (walk T t claim xs (n + 1))
          → Ends (x ∷ xs) n
          (unless b (Constraint (record { 0 = x.at }) x.number (n + 1)) (walk T t claim xs (n + 1)))
      go true e r = one_more_end x xs n _ e r
      go false e r =
          stops x.at x.number 1
          (record { before = []; after = xs; order = refl; passed = none_to_hold; fails = e; place = omega arith })
          (n + 1) refl

  -- the two ends exclude each other: the test that fails is one of the list
  pub not_both : (xs : List Test) (i q n : ℕ) → AllHold T t claim xs → IsFirstFailing T t claim xs i q n → ⊥
  not_both xs i q n a f =
      true≢false
      (sym (a x (subst (λ l. Memᴰ x l) (sym f.order) (in_middle x f.before f.after))) ∙ f.fails)
    where
      x : Test
      x = record { at = i; number = q }

  -- a walk stops at the test that fails, where all before it hold
  walk_stops : (xs : List Test) (i q : ℕ) (rest : List Test) (n : ℕ) → AllHold T t claim xs
      → holds T t claim i q ≡ false
      → walk T t claim (xs ++ record { at = i; number = q } ∷ rest) n
      ≡ Err (Constraint (record { 0 = i }) q (n + (length xs + 1)))
  unfolding walk
  walk_stops [] i q rest n a e =
      let z : n + 1 ≡ n + (0 + 1) = omega arith in
      rw e (ap (λ m. Err (Constraint (record { 0 = i }) q m)) z)
  walk_stops (x ∷ xs) i q rest n a e =
      let z : n + 1 + (length xs + 1) ≡ n + (suc (length xs) + 1) = omega arith in
      rw (a x (Memᴰ.head refl))
      (walk_stops xs i q rest (n + 1) (λ y m. a y (Memᴰ.tail m)) e
      ∙ ap (λ m. Err (Constraint (record { 0 = i }) q m)) z)

  -- ---- through all tests
  module _ (k c : ℕ) where
    test_ends : Ends (tests k c) 0 (constraint_test T t claim c k)
    unfolding constraint_test
    test_ends = walk_ends (tests k c) 0

    pub accepted_all_hold : constraint_test T t claim c k ≡ Ok tt → AllHold T t claim (tests k c)
    accepted_all_hold = go (constraint_test T t claim c k) test_ends
      where
        go : (r : Answer) → Ends (tests k c) 0 r → r ≡ Ok tt → AllHold T t claim (tests k c)
        go r (passes a) e = a
        go r (stops i q place f m p) e = absurd (not_accepted _ e)

    pub all_hold_accepted : AllHold T t claim (tests k c) → constraint_test T t claim c k ≡ Ok tt
    all_hold_accepted a = go (constraint_test T t claim c k) test_ends
      where
        go : (r : Answer) → Ends (tests k c) 0 r → r ≡ Ok tt
        go r (passes b) = refl
        go r (stops i q place f m p) = absurd (not_both (tests k c) i q place a f)

    -- a refusal names row, constraint and place of the first test that fails
    pub refused_first_failing : (i q n : ℕ) → constraint_test T t claim c k ≡ Err (Constraint (record { 0 = i }) q n)
        → IsFirstFailing T t claim (tests k c) i q n
    refused_first_failing i q n = go (constraint_test T t claim c k) test_ends
      where
        go : (r : Answer) → Ends (tests k c) 0 r → r ≡ Err (Constraint (record { 0 = i }) q n)
            → IsFirstFailing T t claim (tests k c) i q n
        go r (passes a) e = absurd (not_accepted _ (sym e))
        go r (stops j d place f m p) e =
            let same : ◌≡◌ {A = RowNumber} (record { 0 = j }) (record { 0 = i }) = cc in
            let x : j ≡ i = ap (λ row. row.0) same in
            let y : d ≡ q = cc in
            let z : m ≡ n = cc in
            let w : place ≡ n = omega arith in
            subst₃ (λ u v l. IsFirstFailing T t claim (tests k c) u v l) x y w f

    pub first_failing_refused : (i q n : ℕ) → IsFirstFailing T t claim (tests k c) i q n
        → constraint_test T t claim c k ≡ Err (Constraint (record { 0 = i }) q n)
    unfolding constraint_test
    first_failing_refused i q n f =
        let z : 0 + (length f.before + 1) ≡ n = omega (arith, f.place) in
        ap (λ l. walk T t claim l 0) f.order
        ∙ walk_stops f.before i q f.after 0 f.passed f.fails
        ∙ ap (λ m. Err (Constraint (record { 0 = i }) q m)) z

    -- and every trace that is not accepted is refused so
    pub else_first_failing : (constraint_test T t claim c k ≡ Ok tt → ⊥)
        → (i : ℕ) × (q : ℕ) × (n : ℕ) × (constraint_test T t claim c k ≡ Err (Constraint (record { 0 = i }) q n))
    else_first_failing = go (constraint_test T t claim c k) test_ends
      where
        go : (r : Answer) → Ends (tests k c) 0 r → (r ≡ Ok tt → ⊥)
            → (i : ℕ) × (q : ℕ) × (n : ℕ) × (r ≡ Err (Constraint (record { 0 = i }) q n))
        go r (passes a) never = absurd (never refl)
        go r (stops i q place f m p) never = (i, q, m, refl)
