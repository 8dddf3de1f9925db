-- Two taps and four zeros: the input of Hash's eight words, and the input that ends in zeros, which is one of these.
-- Assumes nothing.
use mathlib.Core.Path.{◌≡◌, refl, ap, subst}
use mathlib.Core.Bool.{Bool, true, false, ◌&&◌}
use mathlib.Core.List.{List, [], ◌∷◌, ◌++◌}
use Prim.Native.Nat.{ℕ, zero, suc, ◌+◌, ◌<◌}
use native.Mathlib.Omega.{arith}
use borrow.Author.Tests.{eqb-true}
use lib.Dec.{eqb}
use Rattle.std.specs.List.{list_all}
use lib.ListN.{length, take, drop, replicate, take-append-drop}
use Rattle.lists.specs.Lists.{cell, tab}
use Rattle.lists.proofs.Tab.{tab_cell}
use Rattle.lists.proofs.Bools.{and_both}
use Rattle.hash.specs.Hash.{input}
use Rattle.hash_undo.specs.Unhash.{ends_in_zeros}

-- the input of eight words
pub input_of : (w : List ℕ) → input (take 4 w) (drop 4 w) ≡ w ++ replicate 4 0
unfolding input
input_of w = ap (λ x. x ++ replicate 4 0) (take-append-drop 4 w)

-- it ends in zeros, and begins with these words
module _ (w : List ℕ) (eight : length w ≡ 8) where
  pub input_zeros : ends_in_zeros (w ++ replicate 4 0) ≡ true
  unfolding ends_in_zeros tab
  input_zeros = subst (λ x. ends_in_zeros (x ++ replicate 4 0) ≡ true) (tab_cell 8 w eight) refl

  pub input_first : take 8 (w ++ replicate 4 0) ≡ w
  unfolding tab
  input_first = subst (λ x. take 8 (x ++ replicate 4 0) ≡ x) (tab_cell 8 w eight) refl

-- eight cells one by one
abbrev pub eight_cells : List ℕ → List ℕ
eight_cells x = cell x 0 ∷ cell x 1 ∷ cell x 2 ∷ cell x 3 ∷ cell x 4 ∷ cell x 5 ∷ cell x 6 ∷ cell x 7 ∷ []

four_tests : (a b c d : Bool) → (a && (b && (c && (d && true)))) ≡ (a && b && c && d)
four_tests false b c d = refl
four_tests true false c d = refl
four_tests true true false d = refl
four_tests true true true false = refl
four_tests true true true true = refl

module _ (x : List ℕ) (twelve : length x ≡ 12) where
  pub first_eight : length (take 8 x) ≡ 8
  unfolding tab
  first_eight = subst (λ y. length (take 8 y) ≡ 8) (tab_cell 12 x twelve) refl

  -- only the first eight cells are returned
  pub first_cells : eight_cells x ≡ take 8 x
  unfolding tab
  first_cells = subst (λ y. eight_cells y ≡ take 8 y) (tab_cell 12 x twelve) refl

  -- the cells behind them, tested one after the other
  pub zeros_tested : list_all (λ y. eqb y 0) (take 4 (drop 8 x)) ≡ ends_in_zeros x
  unfolding tab ends_in_zeros
  zeros_tested =
      subst (λ y. list_all (λ z. eqb z 0) (take 4 (drop 8 y)) ≡ ends_in_zeros y) (tab_cell 12 x twelve)
      (four_tests (eqb (cell x 8) 0) (eqb (cell x 9) 0) (eqb (cell x 10) 0) (eqb (cell x 11) 0))

  -- the last four cells, where they are zero
  last_four : ends_in_zeros x ≡ true → (cell x 8 ≡ 0) × (cell x 9 ≡ 0) × (cell x 10 ≡ 0) × (cell x 11 ≡ 0)
  unfolding ends_in_zeros
  last_four e =
      let c = and_both _ (eqb (cell x 11) 0) e in
      let b = and_both _ (eqb (cell x 10) 0) c.0 in
      let a = and_both (eqb (cell x 8) 0) (eqb (cell x 9) 0) b.0 in (
        eqb-true (cell x 8) 0 a.0,
        eqb-true (cell x 9) 0 a.1,
        eqb-true (cell x 10) 0 b.1,
        eqb-true (cell x 11) 0 c.1,
      )

  pub zero_at : ends_in_zeros x ≡ true → (j : ℕ) → j < 4 → cell x (8 + j) ≡ 0
  zero_at e zero h = (last_four e).0
  zero_at e (suc zero) h = (last_four e).1
  zero_at e (suc (suc zero)) h = (last_four e).2
  zero_at e (suc (suc (suc zero))) h = (last_four e).3
  zero_at e (suc (suc (suc (suc j)))) h = absurd (omega arith)

  -- and then the twelve are the first eight and four zeros
  pub zeros_input : ends_in_zeros x ≡ true → x ≡ take 8 x ++ replicate 4 0
  unfolding tab
  zeros_input e =
      let z = last_four e in
      subst (λ y. y ≡ take 8 y ++ replicate 4 0) (tab_cell 12 x twelve)
      (λ i. cell x 0 ∷ cell x 1 ∷ cell x 2 ∷ cell x 3 ∷ cell x 4 ∷ cell x 5 ∷ cell x 6 ∷ cell x 7
      ∷ z.0 i ∷ z.1 i ∷ z.2 i ∷ z.3 i ∷ [])
