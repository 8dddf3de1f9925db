-- The ordered list of tests holds each constraint that applies, at each row of the trace, and nothing else.
-- Assumes nothing.
use mathlib.Core.Path.{◌≡◌, refl, sym, ap, ◌∙◌}
use mathlib.Core.Bool.{Bool, true, false}
use mathlib.Core.Logic.{◌⊎◌, inl, inr, ◌↔◌}
use mathlib.Core.List.Memᴰ
use mathlib.Core.List.{List, ◌∷◌, ◌++◌, Memᴰ}
use Prim.Native.Nat.{ℕ, zero, suc, ◌+◌, ◌*◌, ◌≤◌, ◌<◌}
use native.Mathlib.Decide.{ℕ_discrete}
use native.Mathlib.Omega.{arith}
use Rattle.check_constraints.specs.Constraints.{Test, keep, applies, row_tests, tests_from, tests}
use Rattle.check_constraints.proofs.Families.{Applies, applies_cases, zero_columns, new_zeros, starts}
use Rattle.check_constraints.proofs.Families.{output_kept, goes_on, ends, joins, claims}

-- ---- where a list is cut before a test, the test is one of it
pub in_middle : (x : Test) (before after : List Test) → Memᴰ x (before ++ x ∷ after)
in_middle x before after = Memᴰ.append_right before (Memᴰ.head refl)

-- ---- a test of the list is one of a row of the trace, and its constraint applies there
pub in_row : (k c i q n : ℕ) (x : Test) → Memᴰ x (row_tests k c i q n)
    → (x.at ≡ i) × (q ≤ x.number) × (applies k c i x.number ≡ true)
unfolding row_tests
in_row k c i q zero x m = absurd (Memᴰ.not-nil m)
in_row k c i q (suc n) x m = go (applies k c i q) refl (λ p. later (in_row k c i (q + 1) n x p)) m
  where
    rest : List Test
    rest = row_tests k c i (q + 1) n

    Says : Type 0
    Says = (x.at ≡ i) × (q ≤ x.number) × (applies k c i x.number ≡ true)

    later : (x.at ≡ i) × (q + 1 ≤ x.number) × (applies k c i x.number ≡ true) → Says
    later s = (s.0, omega (arith, s.1), s.2)

    here : applies k c i q ≡ true → (x ≡ record { at = i; number = q }) ⊎ Memᴰ x rest → (Memᴰ x rest → Says)
        → Says
    here e (inl p) r =
        (ap (λ y. y.at) p, omega (arith, ap (λ y. y.number) p), ap (λ y. applies k c i y.number) p ∙ e)
    here e (inr p) r = r p

    go : (b : Bool) → applies k c i q ≡ b → (Memᴰ x rest → Says)
        → Memᴰ x (keep b (record { at = i; number = q }) rest) → Says
    go true e r p = here e (Memᴰ.cases_cons p) r
    go false e r p = r p

-- among the constraints q to q + n - 1
pub row_end : (k c i q n : ℕ) (x : Test) → Memᴰ x (row_tests k c i q n) → x.number < q + n
unfolding row_tests
row_end k c i q zero x m = absurd (Memᴰ.not-nil m)
row_end k c i q (suc n) x m = go (applies k c i q) (λ p. omega (arith, row_end k c i (q + 1) n x p)) m
  where
    rest : List Test
    rest = row_tests k c i (q + 1) n

    here : (x ≡ record { at = i; number = q }) ⊎ Memᴰ x rest → (Memᴰ x rest → x.number < q + suc n)
        → x.number < q + suc n
    here (inl p) r = omega (arith, ap (λ y. y.number) p)
    here (inr p) r = r p

    go : (b : Bool) → (Memᴰ x rest → x.number < q + suc n)
        → Memᴰ x (keep b (record { at = i; number = q }) rest) → x.number < q + suc n
    go true r p = here (Memᴰ.cases_cons p) r
    go false r p = r p

pub in_rows : (k c i n : ℕ) (x : Test) → Memᴰ x (tests_from k c i n)
    → (i ≤ x.at) × (x.at < i + n) × (applies k c x.at x.number ≡ true)
unfolding tests_from
in_rows k c i zero x m = absurd (Memᴰ.not-nil m)
in_rows k c i (suc n) x m = go (Memᴰ.append_cases (row_tests k c i 1 52) m) (in_rows k c (i + 1) n x)
  where
    go : Memᴰ x (row_tests k c i 1 52) ⊎ Memᴰ x (tests_from k c (i + 1) n)
        → (Memᴰ x (tests_from k c (i + 1) n)
        → (i + 1 ≤ x.at) × (x.at < i + 1 + n) × (applies k c x.at x.number ≡ true))
        → (i ≤ x.at) × (x.at < i + suc n) × (applies k c x.at x.number ≡ true)
    go (inl p) r =
        let s = in_row k c i 1 52 x p in
        (omega (arith, s.0), omega (arith, s.0), ap (λ y. applies k c y x.number) s.0 ∙ s.2)
    go (inr p) r =
        let s = r p in
        (omega (arith, s.0), omega (arith, s.1), s.2)

-- ---- each of these is a test of the list
row_in : (k c i q n d : ℕ) → q ≤ d → d < q + n → applies k c i d ≡ true
    → Memᴰ (record { at = i; number = d }) (row_tests k c i q n)
unfolding row_tests
row_in k c i q zero d l h a = absurd (omega arith)
row_in k c i q (suc n) d l h a =
    go (applies k c i q) refl (ℕ_discrete q d) (λ f. row_in k c i (q + 1) n d f (omega arith) a)
  where
    rest : List Test
    rest = row_tests k c i (q + 1) n

    go : (b : Bool) → applies k c i q ≡ b → Dec (q ≡ d) → (q + 1 ≤ d → Memᴰ (record { at = i; number = d }) rest)
        → Memᴰ (record { at = i; number = d }) (keep b (record { at = i; number = q }) rest)
    go true e (yes p) r = Memᴰ.head (λ z. record { at = i; number = sym p z })
    go true e (no p) r = Memᴰ.tail (r (omega arith))
    go false e (yes p) r =
        let z : false ≡ true = sym e ∙ ap (applies k c i) p ∙ a in
        absurd (let z : ◌≡◌ {A = ℕ} 0 1 = cc in omega arith)
    go false e (no p) r = r (omega arith)

rows_in : (k c i n e d : ℕ) → i ≤ e → e < i + n → 1 ≤ d → d < 53 → applies k c e d ≡ true
    → Memᴰ (record { at = e; number = d }) (tests_from k c i n)
unfolding tests_from
rows_in k c i zero e d p r l h a = absurd (omega arith)
rows_in k c i (suc n) e d p r l h a = go (ℕ_discrete i e) (λ f. rows_in k c (i + 1) n e d f (omega arith) l h a)
  where
    go : Dec (i ≡ e) → (i + 1 ≤ e → Memᴰ (record { at = e; number = d }) (tests_from k c (i + 1) n))
        → Memᴰ (record { at = e; number = d }) (row_tests k c i 1 52 ++ tests_from k c (i + 1) n)
    go (yes f) r =
        Memᴰ.append_left (tests_from k c (i + 1) n)
        (Memᴰ.cast (λ z. record { at = sym f z; number = d })
        (row_in k c i 1 52 d l h (ap (λ y. applies k c y d) f ∙ a)))
    go (no f) r = Memᴰ.append_right (row_tests k c i 1 52) (r (omega arith))

-- a constraint that applies is one of 1 to 52
pub number_range : (k c i q : ℕ) → Applies k c i q → (1 ≤ q) × (q < 53)
number_range k c i q (zero_columns j h e r) = (omega arith, omega arith)
number_range k c i q (new_zeros j h e r) = (omega arith, omega arith)
number_range k c i q (starts j h e r) = (omega arith, omega arith)
number_range k c i q (output_kept j h e r s) = (omega arith, omega arith)
number_range k c i q (goes_on j f h e r s n) = (omega arith, omega arith)
number_range k c i q (ends j h e r) = (omega arith, omega arith)
number_range k c i q (joins j h e r n) = (omega arith, omega arith)
number_range k c i q (claims j h e r) = (omega arith, omega arith)

-- the tests of a trace of k batches are the constraints that apply, at its 32k rows
pub test_list : (k c : ℕ) (x : Test)
    → Memᴰ x (tests k c) ↔ ((x.at < 32 * k) × (applies k c x.at x.number ≡ true))
unfolding tests
test_list k c x = (
  λ m. from (in_rows k c 0 (32 * k) x m),
  λ s. to s (number_range k c x.at x.number (applies_cases k c x.at x.number s.1)),
)
  where
    from : (0 ≤ x.at) × (x.at < 0 + 32 * k) × (applies k c x.at x.number ≡ true)
        → (x.at < 32 * k) × (applies k c x.at x.number ≡ true)
    from s = (omega (arith, s.1), s.2)

    to : (x.at < 32 * k) × (applies k c x.at x.number ≡ true) → (1 ≤ x.number) × (x.number < 53)
        → Memᴰ x (tests_from k c 0 (32 * k))
    to s r = rows_in k c 0 (32 * k) x.at x.number (omega arith) (omega (arith, s.0)) r.0 r.1 s.1
