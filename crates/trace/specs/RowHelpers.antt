-- Rows of twelve cells in a destination, and those that one hash fills.
-- Assumes nothing.
use Rattle.std.specs.Prelude.{List, ◌++◌, ℕ, ◌+◌, ◌*◌, ◌-◌, ◌/◌, ◌%◌, eqb, take, drop}
use Rattle.lists.specs.Lists.{choose, cell, tab}
use Rattle.numbers.specs.Numbers.{width, batch_rows, within}
use Rattle.hash.specs.Hash.{middle_state, final_state}

-- d with the rows from a up to b, without b, those that are given by their numbers
unfoldable pub with_rows : (ℕ → List ℕ) → ℕ → ℕ → List ℕ → List ℕ
with_rows row a b d =
    take (width * a) d ++ tab (width * (b - a)) (λ n. cell (row (a + n / width)) (n % width)) ++ drop (width * b) d

-- the rows that the hashes before hash h fill, which is the first row that its input shows in: row 0, 11 or 21 of its
-- batch
unfoldable pub rows_before : ℕ → ℕ
rows_before h = batch_rows * (h / 3) + 10 * (h % 3) + (h % 3 + 2) / 3

-- row i as a hash with the input s fills it: the input itself at row 0 of a batch, the final state at row 31, else a
-- middle state
unfoldable pub hash_row : List ℕ → List ℕ → ℕ → List ℕ
hash_row T s i =
    choose (eqb (within i) 0) s
    (choose (eqb (within i) 31) (final_state T s)
    (middle_state T s ((within i - 1) % 10)))
