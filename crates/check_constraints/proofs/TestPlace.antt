-- The place of a test: before it stand the tests of all rows before its own, and those of its row with a lower number.
-- The order can be cut so (TestCount.antt), and, since it rises (TestOrder.antt), before a test in one way only.
-- Assumes nothing.
use mathlib.Core.Path.{◌≡◌, refl, sym, ap, ◌∙◌, subst}
use mathlib.Core.Bool.{true}
use mathlib.Core.List.{List, [], ◌∷◌, ◌++◌, append_assoc, Memᴰ}
use Prim.Native.Nat.{ℕ, suc, ◌+◌, ◌*◌, ◌-◌, ◌≤◌, ◌<◌}
use native.Mathlib.Omega.{arith}
use lib.ListN.{length, length-append}
use Rattle.lists.specs.Lists.{choose}
use Rattle.lists.proofs.Sum.{sum_suc}
use Rattle.check_constraints.specs.Constraints.{Test, keep, applies, row_tests, tests_from, tests}
use Rattle.check_constraints.specs.FirstFailing.{tests_up_to, place_of}
use Rattle.check_constraints.proofs.Families.{applies_cases}
use Rattle.check_constraints.proofs.TestList.{in_middle, test_list, number_range}
use Rattle.check_constraints.proofs.TestOrder.{Earlier, by_row, by_number, Rising, none, more, in_order_lem}
use Rattle.check_constraints.proofs.TestCount.{row_cut, row_count, rows_cut, rows_count}

-- ---- a list that rises has each test once
not_earlier : (x y : Test) → x ≡ y → Earlier x y → ⊥
not_earlier x y e (by_row l) = omega (arith, ap (λ z. z.at) e)
not_earlier x y e (by_number r l) = omega (arith, ap (λ z. z.number) e)

-- what its first test is before, and the rest of it
rising_parts : {l : List Test} (x : Test) (xs : List Test) → l ≡ x ∷ xs → Rising l
    → ((y : Test) → Memᴰ y xs → Earlier x y) × Rising xs
rising_parts x xs e none = absurd (let z : ◌≡◌ {A = ℕ} 0 1 = cc in omega arith)
rising_parts x xs e (more {x = y} {xs = ys} f r) =
    let a : y ≡ x = cc in
    let b : ys ≡ xs = cc in
    subst (λ v. ((z : Test) → Memᴰ z xs → Earlier v z) × Rising xs) a
    (subst (λ v. ((z : Test) → Memᴰ z v → Earlier y z) × Rising v) b (f, r))

-- so two ways to cut it before a test are the same
pub one_cut : (l : List Test) (x : Test) (before after before' after' : List Test) → Rising l → l ≡ before ++ x ∷ after
    → l ≡ before' ++ x ∷ after' → length before ≡ length before'
one_cut l x [] after [] after' r p q = refl
one_cut l x [] after (y ∷ before') after' r p q =
    let rest : after ≡ before' ++ x ∷ after' = cc in
    let again = subst (Memᴰ x) (sym rest) (in_middle x before' after') in
    absurd (not_earlier x x refl ((rising_parts x after p r).0 x again))
one_cut l x (y ∷ before) after [] after' r p q =
    let same : y ≡ x = cc in
    absurd (not_earlier y x same ((rising_parts y (before ++ x ∷ after) p r).0 x (in_middle x before after)))
one_cut l x (y ∷ before) after (z ∷ before') after' r p q =
    let rest : before ++ x ∷ after ≡ before' ++ x ∷ after' = cc in
    ap suc
    (one_cut (before ++ x ∷ after) x before after before' after' (rising_parts y (before ++ x ∷ after) p r).1 refl
    rest)

-- ---- the cut before constraint q at row i, with p constraints before it, s after it, and r rows after its own
module _ (k c i q p s r : ℕ) (number : 1 + p ≡ q) (numbers : 52 ≡ p + suc s) (rows : 32 * k ≡ i + suc r)
    (there : applies k c i q ≡ true) where
  abbrev x : Test
  x = record { at = i; number = q }

  abbrev pub before : List Test
  before = tests_from k c 0 i ++ row_tests k c i 1 p

  abbrev pub after : List Test
  after = row_tests k c i (q + 1) s ++ tests_from k c (i + 1) r

  row_is : row_tests k c i 1 52 ≡ row_tests k c i 1 p ++ x ∷ row_tests k c i (q + 1) s
  unfolding row_tests
  row_is =
      ap (row_tests k c i 1) numbers
      ∙ row_cut k c i 1 p (suc s)
      ∙ ap (λ d. row_tests k c i 1 p ++ row_tests k c i d (suc s)) number
      ∙ ap (λ b. row_tests k c i 1 p ++ keep b x (row_tests k c i (q + 1) s)) there

  pub order_is : tests k c ≡ before ++ x ∷ after
  unfolding tests tests_from
  order_is =
      let first : 0 + i ≡ i = omega arith in
      ap (tests_from k c 0) rows
      ∙ rows_cut k c 0 i (suc r)
      ∙ ap (λ j. tests_from k c 0 i ++ tests_from k c j (suc r)) first
      ∙ ap (λ l. tests_from k c 0 i ++ (l ++ tests_from k c (i + 1) r)) row_is
      ∙ ap (λ l. tests_from k c 0 i ++ l)
      (append_assoc (row_tests k c i 1 p) (x ∷ row_tests k c i (q + 1) s) (tests_from k c (i + 1) r))
      ∙ sym (append_assoc (tests_from k c 0 i) (row_tests k c i 1 p) (x ∷ after))

  pub before_count : length before + 1 ≡ place_of k c i q
  unfolding place_of
  before_count =
      let last : q ≡ suc p = omega arith in
      let same : p + 1 ≡ q = omega arith in
      let one : ◌≡◌ {A = ℕ} (choose (applies k c i (p + 1)) 1 0) 1 = ap (λ d. choose (applies k c i d) 1 0) same
      ∙ ap (λ b. choose b 1 0) there in
      let up_to_lem = ap (tests_up_to k c i) last ∙ sum_suc p (λ n. choose (applies k c i (n + 1)) 1 0) in
      omega
      (arith, length-append (tests_from k c 0 i) (row_tests k c i 1 p), rows_count k c i, row_count k c i p, one, up_to_lem)

-- ---- the place of each test
pub place_of_test : (k c i q : ℕ) (before after : List Test)
    → tests k c ≡ before ++ record { at = i; number = q } ∷ after
    → length before + 1 ≡ place_of k c i q
place_of_test k c i q b a e =
    ap (λ n. n + 1) (one_cut (tests k c) test b a cut rest (in_order_lem k c) e order)
    ∙ before_count k c i q p s r number numbers rows listed.1
  where
    test : Test
    test = record { at = i; number = q }

    listed : (i < 32 * k) × (applies k c i q ≡ true)
    listed = (test_list k c test).0 (subst (Memᴰ test) (sym e) (in_middle test b a))

    range : (1 ≤ q) × (q < 53)
    range = number_range k c i q (applies_cases k c i q listed.1)

    p : ℕ
    p = q - 1

    s : ℕ
    s = 52 - q

    r : ℕ
    r = 32 * k - i - 1

    number : 1 + p ≡ q
    number = omega (arith, range.0)

    numbers : 52 ≡ p + suc s
    numbers = omega (arith, range.0, range.1)

    rows : 32 * k ≡ i + suc r
    rows = omega (arith, listed.0)

    cut : List Test
    cut = before k c i q p s r number numbers rows listed.1

    rest : List Test
    rest = after k c i q p s r number numbers rows listed.1

    order : tests k c ≡ cut ++ test ∷ rest
    order = order_is k c i q p s r number numbers rows listed.1
