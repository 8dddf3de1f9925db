-- Cubes divided by 2^128, as two products in Montgomery's form leave them.
-- Assumes nothing.
use Rattle.std.specs.Prelude.{ℕ, ◌*◌}
use Rattle.field.specs.MontgomeryHelpers.{divided}

-- x^3 / 2^128
abbrev pub montgomery_cube : ℕ → ℕ
montgomery_cube x = divided (divided (x * x) * x)
