-- What an accepted trace stands for (document 00, demand 3; document 02, U6).
-- Assumes nothing.
use Rattle.std.specs.Prelude.{◌≡◌, List, ℕ, length}
use Rattle.field_words.specs.Words.{AllCanonical}
use Rattle.numbers.specs.Numbers.{tap_words}
use Rattle.hash.specs.Hash.{chain, first_taps}
use Rattle.trace.specs.Trace.{trace}

-- w is a list of 3k + 1 taps of words below p whose first 3c + 1, under T, chain to the claim, and which has a section
-- 3.1 trace equal to t in every cell
pub record IsListFor (T t claim : List ℕ) (c k : ℕ) (w : List ℕ) : Type 0 where
  pub size : length w ≡ tap_words k
  pub canonical : AllCanonical w
  pub chains : chain T (first_taps c w) c ≡ claim
  pub traced : trace T w k ≡ t

-- the case c = k, in document 00's words: w is a list of 3k + 1 taps of words below p that, under T, chains to the
-- claim and has a section 3.1 trace equal to t in every cell
pub record IsWholeListFor (T t claim : List ℕ) (k : ℕ) (w : List ℕ) : Type 0 where
  pub size : length w ≡ tap_words k
  pub canonical : AllCanonical w
  pub chains : chain T w k ≡ claim
  pub traced : trace T w k ≡ t
