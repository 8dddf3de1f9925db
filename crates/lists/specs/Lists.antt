-- What the definitions of every layer are written with: a choice, a list by its cells or
-- joined from parts, a sum, the first place where a test says yes.
-- Assumes nothing.
use Rattle.std.specs.Prelude.{Bool, true, false, List, [], ◌∷◌, ◌++◌, ℕ, zero, suc, ◌+◌, get_or}

-- a where the test says yes, else b
abbrev pub choose : {A : Type 0} → Bool → A → A → A
choose true a b = a
choose false a b = b

-- the cell at i, and 0 past the end
abbrev pub cell : List ℕ → ℕ → ℕ
cell s i = get_or s i 0

-- the list of f 0, f 1, .., f (n - 1)
unfoldable pub tab : ℕ → (ℕ → ℕ) → List ℕ
tab zero f = []
tab (suc n) f = f 0 ∷ tab n (λ i. f (suc i))

-- what f makes of each number of a list, one after the other
unfoldable pub each : (ℕ → List ℕ) → List ℕ → List ℕ
each f [] = []
each f (x ∷ s) = f x ++ each f s

-- f 0 + f 1 + .. + f (n - 1)
unfoldable pub sum : ℕ → (ℕ → ℕ) → ℕ
sum zero f = 0
sum (suc n) f = sum n f + f n

-- the lowest i below n at which the test says yes, or n where there is none
unfoldable pub first : ℕ → (ℕ → Bool) → ℕ
first zero test = 0
first (suc n) test = choose (test 0) 0 (suc (first n (λ i. test (suc i))))
