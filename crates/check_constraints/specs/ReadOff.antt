-- Read-off: the taps that a trace holds (document 01, "The 52 constraints").
-- T is a prepared table, t a trace of k batches, h the number of a hash of the chain.
-- Assumes nothing.
use Rattle.std.specs.Prelude.{List, ℕ, ◌+◌, ◌*◌, ◌-◌, ◌/◌, ◌%◌, ltb, eqb}
use Rattle.lists.specs.Lists.{choose, cell, tab}
use Rattle.numbers.specs.Numbers.{batch_rows, tap_words, first_row}
use Rattle.table.specs.Table.{initial_constant}
use Rattle.trace.specs.Trace.{row}
use Rattle.check_constraints.specs.Constraints.{minus, back}

-- the input of hash h: row 0 of the batch for the first of its three hashes; for the others back less K_0 at rows 10
-- and 20, that is back of rows 11 and 21
unfoldable pub read_input : List ℕ → List ℕ → ℕ → List ℕ
read_input T t h =
    choose (eqb (h % 3) 0) (row t (batch_rows * (h / 3))) (minus (back T t (first_row h)) (initial_constant T))

-- word n of the list: w_0 from columns 0 to 3 of the first row 0, w_(h+1) from columns 4 to 7 of the input of hash h
unfoldable pub read_word : List ℕ → List ℕ → ℕ → ℕ
read_word T t n = choose (ltb n 4) (cell (row t 0) n) (cell (read_input T t (n / 4 - 1)) (4 + n % 4))

-- the 12k + 4 words
unfoldable pub read_taps : List ℕ → List ℕ → ℕ → List ℕ
read_taps T t k = tab (tap_words k) (read_word T t)
