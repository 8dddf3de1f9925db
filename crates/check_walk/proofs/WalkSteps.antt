-- What is left of the walk, and what one test, a row's start and a row's end do to it.
-- Assumes nothing.
use mathlib.Core.Path.{◌≡◌, refl, sym, ap, ◌∙◌}
use mathlib.Core.Bool.{true, false}
use mathlib.Core.List.{List, ◌∷◌, ◌++◌}
use Prim.Native.Nat.{ℕ, zero, suc, ◌+◌, ◌*◌, ◌-◌, ◌≤◌, ◌<◌}
use native.Mathlib.Nat.{add-zero, zero-add}
use native.Mathlib.Omega.{arith}
use lib.ListN.{length}
use Rattle.refusals.specs.declared.Refusal.TheVariants.{Constraint}
use Rattle.refusals.specs.Answers.{with_value}
use Rattle.check_constraints.specs.Constraints.{Test, applies, holds, row_tests, tests_from, tests}
use Rattle.check_constraints.specs.Constraints.{walk, constraint_test}
use Rattle.check_applies.proofs.SpanLaws.{Spans}
use Rattle.std.specs.Prelude.{Result, Ok, Err}
use Rattle.refusals.specs.declared.Refusal.{Refusal}

module _ (T t claim : List ℕ) (c k : ℕ) where
  -- what is answered in the end, where n tests are walked and xs are left
  unfoldable pub left : List Test → ℕ → Result ℕ Refusal
  left xs n = with_value (walk T t claim xs n) (n + length xs)

  one_holds : (x : Test) (xs : List Test) (n : ℕ) → holds T t claim x.at x.number ≡ true
      → left (x ∷ xs) n ≡ left xs (n + 1)
  unfolding left walk
  one_holds x xs n e =
      let z : n + suc (length xs) ≡ n + 1 + length xs = omega arith in
      rw e (ap (with_value (walk T t claim xs (n + 1))) z)

  one_fails : (x : Test) (xs : List Test) (n : ℕ) → holds T t claim x.at x.number ≡ false
      → left (x ∷ xs) n ≡ Err (Constraint (record { 0 = x.at }) x.number (n + 1))
  unfolding left walk
  one_fails x xs n e = rw e

  -- from row i on, with m rows left
  unfoldable pub rows : ℕ → ℕ → ℕ → Result ℕ Refusal
  rows i m n = left (tests_from k c i m) n

  -- from constraint q of row i on, with m rows after it
  unfoldable pub constraints : ℕ → ℕ → ℕ → ℕ → Result ℕ Refusal
  constraints i q m n = left (row_tests k c i q (53 - q) ++ tests_from k c (i + 1) m) n

  -- what the walk has to answer
  abbrev pub answer : Result ℕ Refusal
  answer = with_value (constraint_test T t claim c k) (length (tests k c))

  pub start : rows 0 (32 * k) 0 ≡ answer
  unfolding left rows constraint_test tests
  start = ap (with_value (walk T t claim (tests_from k c 0 (32 * k)) 0)) (zero-add (length (tests_from k c 0 (32 * k))))

  -- no row is left
  pub done : (i m n : ℕ) → m ≡ 0 → rows i m n ≡ Ok n
  unfolding left rows tests_from walk
  done i m n e = rw e (ap Ok (add-zero n))

  module _ (i q m n : ℕ) (h : q ≤ 52) where
    one_more : 53 - q ≡ suc (53 - (q + 1))
    one_more = omega arith

    pub skip : applies k c i q ≡ false → constraints i q m n ≡ constraints i (q + 1) m n
    unfolding constraints row_tests
    skip a = rw (one_more, a)

    pub pass : applies k c i q ≡ true → holds T t claim i q ≡ true
        → constraints i q m n ≡ constraints i (q + 1) m (n + 1)
    unfolding constraints row_tests
    pass a p = rw (one_more, a) (one_holds _ _ n p)

    pub fail : applies k c i q ≡ true → holds T t claim i q ≡ false
        → constraints i q m n ≡ Err (Constraint (record { 0 = i }) q (n + 1))
    unfolding constraints row_tests
    fail a p = rw (one_more, a) (one_fails _ _ n p)

  -- constraints that do not apply are passed over
  skip_some : (i q m n d : ℕ) → q + d ≤ 53 → ((e : ℕ) → q ≤ e → e < q + d → applies k c i e ≡ false)
      → constraints i q m n ≡ constraints i (q + d) m n
  skip_some i q m n zero l h = ap (λ x. constraints i x m n) (sym (add-zero q))
  skip_some i q m n (suc d) l h =
      skip i q m n (omega arith) (h q (omega arith) (omega arith))
      ∙ skip_some i (q + 1) m n d (omega arith) (λ e p r. h e (omega arith) (omega arith))
      ∙ ap (λ x. constraints i x m n) one
    where
      one : q + 1 + d ≡ q + suc d
      one = omega arith

  whole_row : (i r n : ℕ) → i < r → rows i (r - i) n ≡ constraints i 1 (r - (i + 1)) n
  unfolding constraints rows tests_from
  whole_row i r n h =
      let e : r - i ≡ suc (r - (i + 1)) = omega arith in
      rw e

  row_over : (i m n : ℕ) → constraints i 53 m n ≡ rows (i + 1) m n
  unfolding constraints rows row_tests
  row_over i m n = refl

  module _ (i low end : ℕ) (s : Spans i low end) where
    -- a row begins with the lowest constraint of its span, and is over at its end
    pub enter : (r n : ℕ) → i < r → rows i (r - i) n ≡ constraints i low (r - (i + 1)) n
    enter r n h =
        whole_row i r n h
        ∙ skip_some i 1 (r - (i + 1)) n (low - 1) (omega (arith, s.from_one, s.some, s.to_last))
        (λ e p r. s.below k c e (omega (arith, s.from_one)))
        ∙ ap (λ x. constraints i x (r - (i + 1)) n) one
      where
        one : 1 + (low - 1) ≡ low
        one = omega (arith, s.from_one)

    pub leave : (q m n : ℕ) → end ≤ q → q ≤ 53 → constraints i q m n ≡ rows (i + 1) m n
    leave q m n h l =
        skip_some i q m n (53 - q) (omega arith) (λ e p r. s.above k c e (omega arith))
        ∙ ap (λ x. constraints i x m n) one
        ∙ row_over i m n
      where
        one : q + (53 - q) ≡ 53
        one = omega arith
