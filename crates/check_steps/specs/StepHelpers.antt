-- The inverse of M made ready for cubes divided by 2^128, and the first columns of a state.
-- Assumes nothing.
use Rattle.std.specs.Prelude.{List, ℕ, ltb}
use Rattle.lists.specs.Lists.{choose, cell, tab}
use Rattle.numbers.specs.Numbers.{width}
use Rattle.matrix_ready.specs.MixingHelpers.{ready}
use Rattle.table.specs.Table.{inverse_of}

-- the cube root of 2^128, times 2^64, mod p: the cube then makes up for its division (proofs/Scales.antt, `back_cell`)
abbrev pub back_scale : ℕ
back_scale = 655732205038664229

-- the inverse of M made ready with this scale
unfoldable pub back_ready : List ℕ → List ℕ
back_ready T = ready (inverse_of T) back_scale

-- the first n columns of a state, and zeros
unfoldable pub columns : ℕ → List ℕ → List ℕ
columns n s = tab width (λ j. choose (ltb j n) (cell s j) 0)
