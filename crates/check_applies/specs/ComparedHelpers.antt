-- What a constraint compares: its family, and the column there (document 01, "The 52 constraints").
-- Assumes nothing.
use Rattle.std.specs.Prelude.{◌≡◌, ℕ, ◌+◌, ◌-◌, ◌≤◌}
use Rattle.check_applies.specs.declared.Compared.{Compared}
use Rattle.check_applies.specs.declared.Compared.TheVariants.{Zeros, NewZeros, Starts, GoesOn, Ends, Joins, Claims}

-- constraint q is one of those from first to last, the first of which compares the column, and compares column j
abbrev pub At : ℕ → ℕ → ℕ → ℕ → ℕ → Type 0
At first last column q j = (first ≤ q) × (q ≤ last) × (j ≡ column + (q - first))

-- by the families' numbers and first columns
abbrev pub IsCompared : ℕ → Compared → Type 0
IsCompared q (Zeros j) = At 1 4 8 q j
IsCompared q (NewZeros j) = At 5 8 8 q j
IsCompared q (Starts j) = At 9 20 0 q j
IsCompared q (GoesOn j) = At 21 32 0 q j
IsCompared q (Ends j) = At 33 44 0 q j
IsCompared q (Joins j) = At 45 48 0 q j
IsCompared q (Claims j) = At 49 52 0 q j
