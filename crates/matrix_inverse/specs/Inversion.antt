-- The inverse of a 12 × 12 matrix (document 01, "The table": M has no inverse exactly when some non-zero column of
-- twelve goes to all zeros).
-- Assumes nothing.
use Rattle.std.specs.Prelude.{List, ℕ, Option, Some, None}
use Rattle.numbers.specs.Numbers.{width}
use Rattle.matrix.specs.Matrix.{entry, Kernel, IsInverse}

-- what an inversion answers: the inverse, or that there is none, where m takes some non-zero column to zeros
abbrev pub Inverts : List ℕ → Option (List ℕ) → Type 0
Inverts m (Some n) = IsInverse m n
Inverts m None = Kernel width (entry m)
