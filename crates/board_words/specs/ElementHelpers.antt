-- A part of an element's words, as it is written.
-- Assumes nothing.
use Rattle.std.specs.Prelude.{List, [], ◌∷◌, ℕ, ◌/◌, ◌%◌, ◌^◌}
use Rattle.board_words.specs.Words.{joined}

-- the first two of its three words
abbrev pub upper_words : ℕ → List ℕ
upper_words x = joined 1 (x / 2 ^ 60) ∷ joined 2 (x / 2 ^ 30 % 2 ^ 30) ∷ []
