-- What the walk decides: that every test holds, or which is the first that fails (document 01, "The 52 constraints");
-- and the places of the tests in their order, counted from 1 (document 02, U4).
-- Assumes nothing.
use Rattle.std.specs.Prelude.{◌≡◌, true, false, ℕ, ◌+◌, length}
use mathlib.Core.List.{List, [], ◌∷◌, ◌++◌, Memᴰ}
use Rattle.lists.specs.Lists.{choose, sum}
use Rattle.check_constraints.specs.Constraints.{Test, applies, holds}

-- every test of the list holds
abbrev pub AllHold : List ℕ → List ℕ → List ℕ → List Test → Type 0
AllHold T t claim tests = (x : Test) → Memᴰ x tests → holds T t claim x.at x.number ≡ true

-- constraint q at row i is the first test of the list that fails, and its place, counted from 1, is n
pub record IsFirstFailing (T t claim : List ℕ) (tests : List Test) (i q n : ℕ) : Type 0 where
  pub before : List Test
  pub after : List Test
  pub order : tests ≡ before ++ record { at = i; number = q } ∷ after
  pub passed : AllHold T t claim before
  pub fails : holds T t claim i q ≡ false
  pub place : n ≡ length before + 1

-- ---- places: how many tests of a trace of k batches, with a claim about c of them, stand in the order up to a test,
-- itself included

-- the tests of row i among the constraints 1 to q
abbrev pub tests_up_to : ℕ → ℕ → ℕ → ℕ → ℕ
tests_up_to k c i q = sum q (λ n. choose (applies k c i (n + 1)) 1 0)

-- constraint q at row i: all tests of the rows before, and those of its row up to its own number
unfoldable pub place_of : ℕ → ℕ → ℕ → ℕ → ℕ
place_of k c i q = sum i (λ n. tests_up_to k c n 52) + tests_up_to k c i q

-- the tests of the constraints q to q + 3 at row i, as they stand at a row 31 (document 02, U6)
abbrev pub four_tests : ℕ → ℕ → List Test
four_tests i q =
    record { at = i; number = q }
    ∷ record { at = i; number = q + 1 }
    ∷ record { at = i; number = q + 2 }
    ∷ record { at = i; number = q + 3 }
    ∷ []
