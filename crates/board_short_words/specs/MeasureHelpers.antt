-- What is counted of words beside the bytes that they need: those that are not canonical.
-- Assumes nothing.
use Rattle.std.specs.Prelude.{List, ℕ, leb, length}
use Rattle.lists.specs.Lists.{choose, cell, sum}
use Rattle.field.specs.Field.{P}

-- how many words of a list are not canonical
unfoldable pub bad_count : List ℕ → ℕ
bad_count s = sum (length s) (λ i. choose (leb P (cell s i)) 1 0)
