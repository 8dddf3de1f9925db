-- The row of the claim: which tests stand at a row 31, that no other row's tests depend on c, the places of constraints
-- 49 to 52, and which of them a wrong claim fails first.
-- Assumes nothing.
use mathlib.Core.Path.{◌≡◌, refl, sym, ap, ap₂, ◌∙◌}
use mathlib.Core.Bool.{Bool, true, false}
use mathlib.Core.List.Memᴰ
use mathlib.Core.List.{List, [], ◌∷◌, ◌++◌}
use mathlib.Core.Logic.{⊎_elim}
use Prim.Native.Nat.{ℕ, zero, suc, ◌+◌, ◌*◌, ◌-◌, ◌%◌, ◌≤◌, ◌<◌}
use native.Mathlib.Decide.{ℕ_discrete, dec_lt}
use native.Mathlib.Omega.{arith}
use borrow.Author.Tests.{eq-eqb, ne_eqb, eqb-true}
use lib.Dec.{eqb}
use Rattle.lists.specs.Lists.{choose, cell, sum}
use Rattle.lists.proofs.Sum.{sum_ext, sum_split}
use Rattle.numbers.specs.Numbers.{within}
use Rattle.trace.specs.Trace.{row}
use Rattle.check_constraints.specs.Constraints.{last_row, claim_row, of_family, families, applies, holds, Test, keep}
use Rattle.check_constraints.specs.Constraints.{row_tests, tests_from, tests}
use Rattle.check_constraints.specs.FirstFailing.{AllHold, IsFirstFailing, tests_up_to, place_of, four_tests}
use Rattle.check_constraints.proofs.Families.{Applies, applies_cases, applies_yes, zero_columns, new_zeros, starts}
use Rattle.check_constraints.proofs.Families.{output_kept, goes_on, ends, joins, claims}
use Rattle.check_constraints.proofs.Equations.{at_claims, claim_unread}
use Rattle.check_constraints.proofs.TestList.{in_row, row_end, in_rows, test_list}
use Rattle.check_constraints.proofs.TestPlace.{before, after, order_is, before_count}
use Rattle.check_constraints.proofs.TestCount.{tests_at, same_row, same_count, tests_at_other, batches}

-- ---- rows other than 31
pub other_rows : (k c d i q : ℕ) → (within i ≡ 31 → ⊥) → applies k c i q ≡ applies k d i q
other_rows k c d i q h = same_row k c k d i i q refl refl (no c ∙ sym (no d))
  where
    no : (e : ℕ) → claim_row e i ≡ false
    no e = ne_eqb (i + 1) (32 * e) (λ (z : i + 1 ≡ 32 * e). h (omega arith))

-- ---- the tests of a row, from those of another row at which the same constraints apply
abbrev moved : ℕ → List Test → List Test
moved i [] = []
moved i (x ∷ xs) = record { at = i; number = x.number } ∷ moved i xs

moved_keep : (i : ℕ) (b : Bool) (x : Test) (xs : List Test)
    → keep b (record { at = i; number = x.number }) (moved i xs) ≡ moved i (keep b x xs)
moved_keep i true x xs = refl
moved_keep i false x xs = refl

same_tests : (k c l d i n : ℕ) → ((q : ℕ) → applies k c i q ≡ applies l d n q) → (q m : ℕ)
    → row_tests k c i q m ≡ moved i (row_tests l d n q m)
unfolding row_tests
same_tests k c l d i n h q zero = refl
same_tests k c l d i n h q (suc m) =
    ap₂ (λ b xs. keep b (record { at = i; number = q }) xs) (h q) (same_tests k c l d i n h (q + 1) m)
    ∙ moved_keep i (applies l d n q) (record { at = n; number = q }) (row_tests l d n (q + 1) m)

-- ---- row 31 of batch b

-- it is the last row of b + 1 batches, and of no other number of them
last_of : (b k : ℕ) → b + 1 ≡ k → last_row k (32 * b + 31) ≡ true
last_of b k e = eq-eqb (32 * b + 31 + 1) (32 * k) (omega arith)

not_last_of : (b k : ℕ) → (b + 1 ≡ k → ⊥) → last_row k (32 * b + 31) ≡ false
not_last_of b k h = ne_eqb (32 * b + 31 + 1) (32 * k) (λ (z : 32 * b + 31 + 1 ≡ 32 * k). h (omega arith))

pub row_31 : (k c b : ℕ) → let i = 32 * b + 31 in
    row_tests k c i 1 52 ≡ choose (eqb (b + 1) k) [] (four_tests i 45) ++ choose (eqb (b + 1) c) (four_tests i 49) []
unfolding row_tests applies of_family families
row_31 k c b = go (ℕ_discrete (b + 1) k) (ℕ_discrete (b + 1) c)
  where
    w : within (32 * b + 31) ≡ 31
    w = omega arith

    -- as at row 31 of l batches with a claim about d of them
    alike : (l d : ℕ) → last_row k (32 * b + 31) ≡ last_row l 31 → claim_row c (32 * b + 31) ≡ claim_row d 31
        → row_tests k c (32 * b + 31) 1 52 ≡ moved (32 * b + 31) (row_tests l d 31 1 52)
    alike l d e f =
        same_tests k c l d (32 * b + 31) 31 (λ q. same_row k c l d (32 * b + 31) 31 q w e f) 1 52

    go : Dec (b + 1 ≡ k) → Dec (b + 1 ≡ c)
        → row_tests k c (32 * b + 31) 1 52
        ≡ choose (eqb (b + 1) k) [] (four_tests (32 * b + 31) 45)
        ++ choose (eqb (b + 1) c) (four_tests (32 * b + 31) 49) []
    go (yes e) (yes f) = rw (eq-eqb (b + 1) k e, eq-eqb (b + 1) c f) (alike 1 1 (last_of b k e) (last_of b c f))
    go (yes e) (no f) = rw (eq-eqb (b + 1) k e, ne_eqb (b + 1) c f) (alike 1 2 (last_of b k e) (not_last_of b c f))
    go (no e) (yes f) = rw (ne_eqb (b + 1) k e, eq-eqb (b + 1) c f) (alike 2 1 (not_last_of b k e) (last_of b c f))
    go (no e) (no f) = rw (ne_eqb (b + 1) k e, ne_eqb (b + 1) c f) (alike 2 2 (not_last_of b k e) (not_last_of b c f))

-- ---- the places of constraints 49 to 52: all tests of the rows before, four of the joint where a batch follows, and
-- those of the claim up to it
rows_before_lem : sum 31 tests_at ≡ 368
unfolding sum
rows_before_lem = refl

before_claim : (k c : ℕ) → 1 ≤ c → c ≤ k
    → sum (32 * (c - 1) + 31) (λ n. tests_up_to k c n 52) ≡ 372 * (c - 1) + 368
before_claim k c low high =
    sum_ext (32 * (c - 1) + 31) _ at
    (λ n l. tests_at_other k c n (ne_eqb (n + 1) (32 * k) (λ (z : n + 1 ≡ 32 * k). omega arith))
    (ne_eqb (n + 1) (32 * c) (λ (z : n + 1 ≡ 32 * c). omega arith)))
    ∙ sum_split (32 * (c - 1)) 31 at
    ∙ ap₂ ◌+◌ (batches (c - 1)) (sum_ext 31 _ tests_at each ∙ rows_before_lem)
  where
    at : ℕ → ℕ
    at n = tests_at (within n)

    each : (r : ℕ) → r < 31 → at (32 * (c - 1) + r) ≡ tests_at r
    each r h =
        let e : (32 * (c - 1) + r) % 32 ≡ r = omega arith in
        ap tests_at e

up_to_last : (j : ℕ) → j < 4 → tests_up_to 1 1 31 (49 + j) ≡ 1 + j
unfolding sum applies of_family families
up_to_last zero h = refl
up_to_last (suc zero) h = refl
up_to_last (suc (suc zero)) h = refl
up_to_last (suc (suc (suc zero))) h = refl
up_to_last (suc (suc (suc (suc j)))) h = absurd (omega arith)

up_to_joined : (j : ℕ) → j < 4 → tests_up_to 2 1 31 (49 + j) ≡ 5 + j
unfolding sum applies of_family families
up_to_joined zero h = refl
up_to_joined (suc zero) h = refl
up_to_joined (suc (suc zero)) h = refl
up_to_joined (suc (suc (suc zero))) h = refl
up_to_joined (suc (suc (suc (suc j)))) h = absurd (omega arith)

pub claim_places : (k c j : ℕ) → 1 ≤ c → c ≤ k → j < 4
    → place_of k c (32 * (c - 1) + 31) (49 + j) ≡ choose (eqb c k) (372 * k - 3) (372 * c + 1) + j
unfolding place_of
claim_places k c j low high h = go (ℕ_discrete c k)
  where
    w : within (32 * (c - 1) + 31) ≡ 31
    w = omega arith

    claimed : claim_row c (32 * (c - 1) + 31) ≡ true
    claimed = last_of (c - 1) c (omega arith)

    go : Dec (c ≡ k)
        → sum (32 * (c - 1) + 31) (λ n. tests_up_to k c n 52) + tests_up_to k c (32 * (c - 1) + 31) (49 + j)
        ≡ choose (eqb c k) (372 * k - 3) (372 * c + 1) + j
    go (yes e) =
        let row = same_count k c 1 1 (32 * (c - 1) + 31) 31 (49 + j) w (last_of (c - 1) k (omega arith)) claimed in
        let up = up_to_last j h in
        rw (eq-eqb c k e) (omega (arith, before_claim k c low high))
    go (no e) =
        let row = same_count k c 2 1 (32 * (c - 1) + 31) 31 (49 + j) w
        (not_last_of (c - 1) k (λ z. e (omega arith))) claimed in
        let up = up_to_joined j h in
        rw (ne_eqb c k e) (omega (arith, before_claim k c low high))

-- ---- 49 to 52 stand at no other row
pub claim_only : (k c i q : ℕ) → 49 ≤ q → applies k c i q ≡ true → i ≡ 32 * (c - 1) + 31
claim_only k c i q l e = go (applies_cases k c i q e)
  where
    go : Applies k c i q → i ≡ 32 * (c - 1) + 31
    go (zero_columns j h f r) = absurd (omega arith)
    go (new_zeros j h f r) = absurd (omega arith)
    go (starts j h f r) = absurd (omega arith)
    go (output_kept j h f r s) = absurd (omega arith)
    go (goes_on j g h f r s n) = absurd (omega arith)
    go (ends j h f r) = absurd (omega arith)
    go (joins j h f r n) = absurd (omega arith)
    go (claims j h f r) = omega arith

-- ---- a claim that is unlike another, under which every test holds, from word j on: 49 + j is the first test to fail
module _ (T t claim other : List ℕ) (k c j : ℕ) (low : 1 ≤ c) (high : c ≤ k) (word : j < 4)
    (hold : AllHold T t claim (tests k c)) (unlike : cell other j ≡ cell claim j → ⊥)
    (like : (m : ℕ) → m < j → cell other m ≡ cell claim m) where
  abbrev at_row : ℕ
  at_row = 32 * (c - 1) + 31

  applied : (m : ℕ) → m < 4 → applies k c at_row (49 + m) ≡ true
  applied m h = applies_yes k c at_row (49 + m) (claims m h refl (omega arith))

  -- every test holds under that claim
  holding : (i q : ℕ) → i < 32 * k → applies k c i q ≡ true → holds T t claim i q ≡ true
  holding i q l e = hold (record { at = i; number = q }) ((test_list k c (record { at = i; number = q })).1 (l, e))

  -- so the row shows it
  shown : (m : ℕ) → m < 4 → cell (row t at_row) m ≡ cell claim m
  shown m h =
      eqb-true _ _ (sym (at_claims T t claim at_row m h) ∙ holding at_row (49 + m) (omega arith) (applied m h))

  -- up to 48 no test looks at the claim; 49 to 48 + j find the same words in both
  early : (i q : ℕ) → i < 32 * k → applies k c i q ≡ true → q < 49 → holds T t other i q ≡ true
  early i q l e h = claim_unread T t other claim i q h ∙ holding i q l e

  same_word : (q : ℕ) → 49 ≤ q → q < 49 + j → holds T t other at_row q ≡ true
  same_word q l h =
      let e : q ≡ 49 + (q - 49) = omega arith in
      ap (holds T t other at_row) e
      ∙ at_claims T t other at_row (q - 49) (omega arith)
      ∙ eq-eqb _ _ (shown (q - 49) (omega arith) ∙ sym (like (q - 49) (omega arith)))

  fails : holds T t other at_row (49 + j) ≡ false
  fails = at_claims T t other at_row j word ∙ ne_eqb _ _ (λ e. unlike (sym e ∙ shown j word))

  -- the tests before it
  cut_number : 1 + (48 + j) ≡ 49 + j
  cut_number = omega arith

  cut_numbers : 52 ≡ 48 + j + suc (3 - j)
  cut_numbers = omega arith

  cut_rows : 32 * k ≡ at_row + suc (32 * k - at_row - 1)
  cut_rows = omega arith

  abbrev tests_before : List Test
  tests_before =
      before k c at_row (49 + j) (48 + j) (3 - j) (32 * k - at_row - 1) cut_number cut_numbers cut_rows
      (applied j word)

  passed : AllHold T t other tests_before
  passed x m =
      ⊎_elim
      (λ p.
      let s = in_rows k c 0 at_row x p in
      early x.at x.number (omega (arith, s.1)) s.2 (earlier x s.1 s.2))
      (λ p.
      let s = in_row k c at_row 1 (48 + j) x p in
      ap (λ i. holds T t other i x.number) s.0 ∙ in_its_row x s.2 (row_end k c at_row 1 (48 + j) x p))
      (Memᴰ.append_cases (tests_from k c 0 at_row) m)
    where
      earlier : (x : Test) → x.at < 0 + at_row → applies k c x.at x.number ≡ true → x.number < 49
      earlier x l e = go (dec_lt x.number 49)
        where
          go : Dec (x.number < 49) → x.number < 49
          go (yes h) = h
          go (no h) = absurd (omega (arith, claim_only k c x.at x.number (omega arith) e))

      in_its_row : (x : Test) → applies k c at_row x.number ≡ true → x.number < 1 + (48 + j)
          → holds T t other at_row x.number ≡ true
      in_its_row x e l = go (dec_lt x.number 49)
        where
          go : Dec (x.number < 49) → holds T t other at_row x.number ≡ true
          go (yes h) = early at_row x.number (omega arith) e h
          go (no h) = same_word x.number (omega arith) (omega arith)

  pub other_claim_fails : IsFirstFailing T t other (tests k c) (32 * (c - 1) + 31) (49 + j)
      (choose (eqb c k) (372 * k - 3) (372 * c + 1) + j)
  other_claim_fails = record {
    before = tests_before;
    after =
        after k c at_row (49 + j) (48 + j) (3 - j) (32 * k - at_row - 1) cut_number cut_numbers cut_rows
        (applied j word);
    order =
        order_is k c at_row (49 + j) (48 + j) (3 - j) (32 * k - at_row - 1) cut_number cut_numbers cut_rows
        (applied j word);
    passed = passed;
    fails = fails;
    place =
        sym (claim_places k c j low high word)
        ∙ sym
        (before_count k c at_row (49 + j) (48 + j) (3 - j) (32 * k - at_row - 1) cut_number cut_numbers cut_rows
        (applied j word));
  }
