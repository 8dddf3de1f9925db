-- An edit of one tap: the altered list, and the first row of its trace that is touched (document 02, U1).
-- Assumes nothing.
use Rattle.std.specs.Prelude.{List, ◌++◌, ℕ, ◌+◌, ◌*◌, ◌-◌, ◌/◌, ◌%◌, leb, eqb, take, drop}
use Rattle.lists.specs.Lists.{choose}
use Rattle.numbers.specs.Numbers.{batch_rows}

-- a list of taps with tap n replaced
unfoldable pub altered : List ℕ → ℕ → List ℕ → List ℕ
altered w n new = take (4 * n) w ++ new ++ drop (4 * n + 4) w

-- row 0, 11 or 21 of a batch, as n is 0, 1 or 2
abbrev pub touched_row : ℕ → ℕ
touched_row n = choose (eqb n 0) 0 (choose (eqb n 1) 11 21)

-- row 0 for taps 0 and 1; for a later tap n it lies in batch (n − 1) div 3, at row 0, 11 or 21 as (n − 1) mod 3 is 0,
-- 1 or 2
unfoldable pub first_touched : ℕ → ℕ
first_touched n = choose (leb n 1) 0 (batch_rows * ((n - 1) / 3) + touched_row ((n - 1) % 3))
