-- How many tests there are: up to each row and constraint, by cutting the order there; and in all, 372 × k for a trace
-- of k batches: 16 at row 0, 8 at rows 10 and 20, 4 at row 31, and 12 at each other row of a batch; but four fewer at
-- the last row, and four more at the row of the claim, which may be the same.
-- Assumes nothing.
use mathlib.Core.Path.{◌≡◌, refl, sym, ap, ap₂, ◌∙◌}
use mathlib.Core.Bool.{Bool, true, false, ◌||◌, not}
use mathlib.Core.List.{List, [], ◌++◌, append_assoc}
use Prim.Native.Nat.{ℕ, zero, suc, ◌+◌, ◌*◌, ◌-◌, ◌%◌, ◌≤◌, ◌<◌}
use native.Mathlib.Omega.{arith}
use borrow.Author.Tests.{eqb-true, eq-eqb, ne_eqb, not-false}
use lib.Dec.{eqb}
use lib.ListN.{length, length-append}
use Rattle.lists.specs.Lists.{choose, sum, first}
use Rattle.lists.proofs.First.{none_first}
use Rattle.lists.proofs.Sum.{sum_add, sum_ext, sum_one, sum_split, sum_suc, sum_zero}
use Rattle.numbers.specs.Numbers.{within}
use Rattle.check_constraints.specs.Constraints.{last_row, claim_row, of_family, families, applies}
use Rattle.check_constraints.specs.Constraints.{Test, keep, row_tests, tests_from, tests}
use Rattle.check_constraints.specs.FirstFailing.{tests_up_to}

-- ---- the tests of a row, cut at a constraint, and counted up to it
keep_more : (b : Bool) (x : Test) (xs ys : List Test) → keep b x (xs ++ ys) ≡ keep b x xs ++ ys
keep_more true x xs ys = refl
keep_more false x xs ys = refl

pub row_cut : (k c i q m n : ℕ) → row_tests k c i q (m + n) ≡ row_tests k c i q m ++ row_tests k c i (q + m) n
unfolding row_tests
row_cut k c i q zero n =
    let e : q ≡ q + 0 = omega arith in
    let f : 0 + n ≡ n = omega arith in
    ap₂ (row_tests k c i) e f
row_cut k c i q (suc m) n =
    let x : Test = record { at = i; number = q } in
    let e : suc m + n ≡ suc (m + n) = omega arith in
    let f : q + 1 + m ≡ q + suc m = omega arith in
    ap (row_tests k c i q) e
    ∙ ap (keep (applies k c i q) x)
    (row_cut k c i (q + 1) m n ∙ ap (λ d. row_tests k c i (q + 1) m ++ row_tests k c i d n) f)
    ∙ keep_more (applies k c i q) x (row_tests k c i (q + 1) m) (row_tests k c i (q + suc m) n)

one_test : (k c i q : ℕ) → length (row_tests k c i q 1) ≡ choose (applies k c i q) 1 0
unfolding row_tests
one_test k c i q = go (applies k c i q)
  where
    go : (b : Bool) → length (keep b (record { at = i; number = q }) []) ≡ choose b 1 0
    go true = refl
    go false = refl

pub row_count : (k c i q : ℕ) → length (row_tests k c i 1 q) ≡ tests_up_to k c i q
unfolding row_tests
row_count k c i zero = sym (sum_zero _)
row_count k c i (suc q) =
    let e : suc q ≡ q + 1 = omega arith in
    let f : 1 + q ≡ q + 1 = omega arith in
    ap (λ n. length (row_tests k c i 1 n)) e
    ∙ ap length (row_cut k c i 1 q 1)
    ∙ length-append (row_tests k c i 1 q) (row_tests k c i (1 + q) 1)
    ∙ ap₂ ◌+◌ (row_count k c i q) (one_test k c i (1 + q) ∙ ap (λ d. choose (applies k c i d) 1 0) f)
    ∙ sym (sum_suc q (λ n. choose (applies k c i (n + 1)) 1 0))

-- ---- the order, cut at a row, and counted up to it
pub rows_cut : (k c i m n : ℕ) → tests_from k c i (m + n) ≡ tests_from k c i m ++ tests_from k c (i + m) n
unfolding tests_from
rows_cut k c i zero n =
    let e : i ≡ i + 0 = omega arith in
    let f : 0 + n ≡ n = omega arith in
    ap₂ (tests_from k c) e f
rows_cut k c i (suc m) n =
    let e : suc m + n ≡ suc (m + n) = omega arith in
    let f : i + 1 + m ≡ i + suc m = omega arith in
    ap (tests_from k c i) e
    ∙ ap (λ l. row_tests k c i 1 52 ++ l)
    (rows_cut k c (i + 1) m n ∙ ap (λ r. tests_from k c (i + 1) m ++ tests_from k c r n) f)
    ∙ sym (append_assoc (row_tests k c i 1 52) (tests_from k c (i + 1) m) (tests_from k c (i + suc m) n))

one_row : (k c i : ℕ) → length (tests_from k c i 1) ≡ tests_up_to k c i 52
unfolding tests_from
one_row k c i = omega (arith, length-append (row_tests k c i 1 52) [], row_count k c i 52)

pub rows_count : (k c i : ℕ) → length (tests_from k c 0 i) ≡ sum i (λ n. tests_up_to k c n 52)
unfolding tests_from
rows_count k c zero = sym (sum_zero _)
rows_count k c (suc i) =
    let e : suc i ≡ i + 1 = omega arith in
    let f : 0 + i ≡ i = omega arith in
    ap (λ n. length (tests_from k c 0 n)) e
    ∙ ap length (rows_cut k c 0 i 1)
    ∙ length-append (tests_from k c 0 i) (tests_from k c (0 + i) 1)
    ∙ ap₂ ◌+◌ (rows_count k c i) (one_row k c (0 + i) ∙ ap (λ n. tests_up_to k c n 52) f)
    ∙ sym (sum_suc i (λ n. tests_up_to k c n 52))

-- ---- the tests at row r of a batch, but for the last row and that of the claim
abbrev pub tests_at : ℕ → ℕ
tests_at r = choose (eqb r 0) 16 (choose (eqb r 10 || eqb r 20) 8 (choose (eqb r 31) 4 12))

-- a constraint applies by the row's number within its batch, and by whether the row is the last and that of the claim
pub same_row : (k c l d i n q : ℕ) → within i ≡ within n → last_row k i ≡ last_row l n → claim_row c i ≡ claim_row d n
    → applies k c i q ≡ applies l d n q
unfolding applies of_family families
same_row k c l d i n q e f g = rw (e, f, g)

pub same_count : (k c l d i n m : ℕ) → within i ≡ within n → last_row k i ≡ last_row l n → claim_row c i ≡ claim_row d n
    → tests_up_to k c i m ≡ tests_up_to l d n m
same_count k c l d i n m e f g =
    sum_ext m _ _ (λ q h. ap (λ b. choose b 1 0) (same_row k c l d i n (q + 1) e f g))

-- computed for each row of a batch that another follows, which the claim is about too, and for row 31 as the last row
-- and as that of the claim
other_rows : first 32 (λ r. not (eqb (tests_up_to 2 2 r 52) (tests_at r))) ≡ 32
unfolding first sum applies of_family families
other_rows = refl

last_and_claimed : tests_up_to 1 1 31 52 ≡ 4
unfolding sum applies of_family families
last_and_claimed = refl

last_not_claimed : tests_up_to 1 2 31 52 ≡ 0
unfolding sum applies of_family families
last_not_claimed = refl

claimed_not_last : tests_up_to 2 1 31 52 ≡ 8
unfolding sum applies of_family families
claimed_not_last = refl

-- the last row of any number of batches is a row 31
last_within : (k i : ℕ) → last_row k i ≡ true → within i ≡ 31
last_within k i e =
    let l = eqb-true (i + 1) (32 * k) e in
    omega arith

-- any other row, too, is not the last of two batches
not_last : (i : ℕ) → last_row 2 (within i) ≡ false
not_last i = ne_eqb (within i + 1) (32 * 2) (λ (z : within i + 1 ≡ 32 * 2). omega arith)

pub tests_at_other : (k c i : ℕ) → last_row k i ≡ false → claim_row c i ≡ false → tests_up_to k c i 52 ≡ tests_at (within i)
tests_at_other k c i e f =
    same_count k c 2 2 i (within i) 52 (omega arith) (e ∙ sym (not_last i)) (f ∙ sym (not_last i))
    ∙ eqb-true _ _
    (not-false _
    (none_first 32 (λ r. not (eqb (tests_up_to 2 2 r 52) (tests_at r))) other_rows (within i) (omega arith)))

-- four where the row is that one
abbrev four : Bool → ℕ
four b = choose b 4 0

pub tests_at_lem : (k c i : ℕ) → tests_up_to k c i 52 + four (last_row k i) ≡ tests_at (within i) + four (claim_row c i)
tests_at_lem k c i = go (last_row k i) (claim_row c i) refl refl
  where
    at_31 : (l d m : ℕ) → within i ≡ 31 → last_row k i ≡ last_row l 31 → claim_row c i ≡ claim_row d 31
        → tests_up_to l d 31 52 ≡ m → (tests_up_to k c i 52 ≡ m) × (tests_at (within i) ≡ 4)
    at_31 l d m w e f g = (same_count k c l d i 31 52 w e f ∙ g, ap tests_at w)

    go : (a b : Bool) → last_row k i ≡ a → claim_row c i ≡ b
        → tests_up_to k c i 52 + four a ≡ tests_at (within i) + four b
    go true true e f = let s = at_31 1 1 4 (last_within k i e) e f last_and_claimed in omega (arith, s.0, s.1)
    go true false e f = let s = at_31 1 2 0 (last_within k i e) e f last_not_claimed in omega (arith, s.0, s.1)
    go false true e f = let s = at_31 2 1 8 (last_within c i f) e f claimed_not_last in omega (arith, s.0, s.1)
    go false false e f = omega (arith, tests_at_other k c i e f)

-- ---- the tests of k batches
a_batch : sum 32 tests_at ≡ 372
unfolding sum
a_batch = refl

pub batches : (k : ℕ) → sum (32 * k) (λ i. tests_at (within i)) ≡ 372 * k
batches zero = sum_zero _
batches (suc k) =
    ap (λ n. sum n at) more
    ∙ sum_split (32 * k) 32 at
    ∙ ap₂ ◌+◌ (batches k) (sum_ext 32 _ tests_at each ∙ a_batch)
    ∙ total
  where
    at : ℕ → ℕ
    at i = tests_at (within i)

    more : 32 * suc k ≡ 32 * k + 32
    more = omega arith

    each : (r : ℕ) → r < 32 → at (32 * k + r) ≡ tests_at r
    each r h =
        let e : (32 * k + r) % 32 ≡ r = omega arith in
        ap tests_at e

    total : 372 * k + 372 ≡ 372 * suc k
    total = omega arith

-- the last row of c batches is one row of k, where c is from 1 to k
one_such_row : (k c : ℕ) → 1 ≤ c → c ≤ k → sum (32 * k) (λ i. four (last_row c i)) ≡ 4
one_such_row k c low high =
    sum_one (32 * k) (32 * c - 1) (λ i. four (last_row c i)) (omega arith)
    (λ i l n. ap four (ne_eqb (i + 1) (32 * c) (λ (z : i + 1 ≡ 32 * c). n (omega arith))))
    ∙ ap four (eq-eqb (32 * c - 1 + 1) (32 * c) (omega arith))

pub length_tests : (k c : ℕ) → 1 ≤ c → c ≤ k → length (tests k c) ≡ 372 * k
unfolding tests
length_tests k c low high =
    let all = sum_add (32 * k) (λ i. tests_up_to k c i 52) (λ i. four (last_row k i)) in
    let each = sum_ext (32 * k) (λ i. tests_up_to k c i 52 + four (last_row k i))
    (λ i. tests_at (within i) + four (claim_row c i)) (λ i h. tests_at_lem k c i) in
    let both = sum_add (32 * k) (λ i. tests_at (within i)) (λ i. four (claim_row c i)) in
    omega (
      arith,
      rows_count k c (32 * k),
      all,
      each,
      both,
      batches k,
      one_such_row k k (omega arith) (omega arith),
      one_such_row k c low high,
    )
