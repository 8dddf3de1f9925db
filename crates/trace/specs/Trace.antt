-- The section 3.1 trace of a list of taps (document 01, "The trace"; Rescue STARK documentation 1.0, section 3.1).
-- Assumes nothing.
use Rattle.std.specs.Prelude.{List, ℕ, ◌+◌, ◌*◌, ◌-◌, ◌/◌, ◌%◌, eqb, take, drop}
use Rattle.lists.specs.Lists.{choose, cell, tab}
use Rattle.numbers.specs.Numbers.{width, batch_rows, trace_words, within}
use Rattle.hash.specs.Hash.{input, tap, output_at, middle_state, final_state}

-- the input of hash h of the chain: the last output, the next tap, four zeros
unfoldable pub hash_input : List ℕ → List ℕ → ℕ → List ℕ
hash_input T w h = input (output_at T w h) (tap w (h + 1))

-- row n of batch b. Row 0: the input of the first hash. Rows 1 to 10, 11 to 20, 21 to 30: middle states 0 to 9 of the
-- three hashes. Row 31: the final state of the third.
unfoldable pub batch_row : List ℕ → List ℕ → ℕ → ℕ → List ℕ
batch_row T w b n =
    choose (eqb n 0) (hash_input T w (3 * b))
    (choose (eqb n 31) (final_state T (hash_input T w (3 * b + 2)))
    (middle_state T (hash_input T w (3 * b + (n - 1) / 10)) ((n - 1) % 10)))

-- row i of the whole trace: 32 rows a batch
unfoldable pub trace_row : List ℕ → List ℕ → ℕ → List ℕ
trace_row T w i = batch_row T w (i / batch_rows) (within i)

-- k batches, row by row, 12 cells a row
unfoldable pub trace : List ℕ → List ℕ → ℕ → List ℕ
trace T w k = tab (trace_words k) (λ n. cell (trace_row T w (n / width)) (n % width))

-- the twelve cells of row i of a trace
unfoldable pub row : List ℕ → ℕ → List ℕ
row t i = take width (drop (width * i) t)
