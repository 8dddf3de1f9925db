-- What an input is, from what `read` answered.
-- Assumes nothing.
use Rattle.std.specs.Prelude.{ℕ, Result, Ok, Err}

-- where a call brings no byte: without an error it is the end, after the bytes read before, and with one a failure
abbrev pub ended_by : {E : Type 0} → Result ℕ E → ℕ → Result ℕ E
ended_by (Ok k) done = Ok done
ended_by (Err e) done = Err e
