-- What the reader of a tap asks of a lent trace.
-- Assumes nothing.
use Rattle.std.specs.Prelude.{◌≡◌, List, ℕ, ◌*◌, ◌^◌, ◌≤◌, ◌<◌, length}
use Rattle.field_words.specs.Words.{AllCanonical}
use Rattle.numbers.specs.Numbers.{trace_words}

-- a trace of k batches, whose words are canonical, holds the taps 0 to 3k, and n is one of them
pub record HasTap (t : List ℕ) (n : ℕ) : Type 0 where
  pub k : ℕ
  pub canonical : AllCanonical t
  pub size : length t ≡ trace_words k
  pub some : 1 ≤ k
  pub few : k < 2 ^ 32
  pub inside : n ≤ 3 * k
