-- What a trace is rewritten from, and the next tap and the last output that the rewriting starts with.
-- Assumes nothing.
use Rattle.std.specs.Prelude.{◌≡◌, List, ◌++◌, ℕ, ◌+◌, ◌*◌, ◌-◌, ◌^◌, ◌≤◌, eqb, length, replicate}
use Rattle.lists.specs.Lists.{choose, tab}
use Rattle.field_words.specs.Words.{AllCanonical}
use Rattle.numbers.specs.Numbers.{trace_words}
use Rattle.table.specs.Table.{IsTable}
use Rattle.trace.specs.Trace.{trace}
use Rattle.check_constraints.specs.ReadOff.{read_input, read_word, read_taps}

-- a trace of k batches that is the trace of the taps that it holds, of which n is one, and a new tap for it
pub record Rewritable (T t : List ℕ) (k n : ℕ) (new : List ℕ) : Type 0 where
  pub table : IsTable T
  pub canonical : AllCanonical t
  pub size : length t ≡ trace_words k
  pub some : 1 ≤ k
  pub few : k ≤ 2 ^ 20
  pub taps : AllCanonical (read_taps T t k)
  pub traced : trace T (read_taps T t k) k ≡ t
  pub inside : n ≤ 3 * k
  pub in_range : AllCanonical new

-- tap m of the altered list: the new one, or that which the trace holds
unfoldable pub tap_of : List ℕ → List ℕ → ℕ → List ℕ → ℕ → List ℕ
tap_of T t n new m = choose (eqb m n) new (tab 4 (λ j. read_word T t (4 * m + j)))

-- a state that begins with the last output before the hash that takes tap n in: with the new tap itself where that is
-- w_0, else with what the trace holds there
unfoldable pub last_before : List ℕ → List ℕ → ℕ → List ℕ → List ℕ
last_before T t n new = choose (eqb n 0) (new ++ replicate 8 0) (read_input T t (n - 1))
