-- Sizes, where rows stand in batches, the permitted batch counts, and the batches of a tap list and of a trace
-- (document 01, "Hash and chain", "The trace").
-- Assumes nothing.
use Rattle.std.specs.Prelude.{Bool, ◌&&◌, ◌≡◌, ℕ, ◌+◌, ◌*◌, ◌/◌, ◌%◌, ◌≤◌, leb, eqb, Option, Some, None}
use Rattle.std.specs.Int.Count.{ones}
use Rattle.lists.specs.Lists.{choose}

-- ---- sizes: the cells of a state and of a row, which is the side of M too; the rows of a batch, and their words
abbrev pub width : ℕ
width = 12

abbrev pub batch_rows : ℕ
batch_rows = 32

abbrev pub batch_words : ℕ
batch_words = 384

-- k batches: their rows, their words, and the words of their 3k + 1 taps
abbrev pub trace_row_count : ℕ → ℕ
trace_row_count k = batch_rows * k

abbrev pub trace_words : ℕ → ℕ
trace_words k = batch_words * k

abbrev pub tap_words : ℕ → ℕ
tap_words k = 12 * k + 4

-- ---- row i of the whole trace is row `within i` of its batch
abbrev pub within : ℕ → ℕ
within i = i % batch_rows

-- the row with the first middle state of hash h: row 1, 11 or 21 of its batch
abbrev pub first_row : ℕ → ℕ
first_row h = batch_rows * (h / 3) + 10 * (h % 3) + 1

-- ---- the most batches of a list of taps, of a trace and of a short file (document 02, U9)
abbrev pub most_batches : ℕ
most_batches = 262144

-- k from 1 to the most, and k has exactly one set bit
pub record IsPermittedTo (most k : ℕ) : Type 0 where
  pub low : 1 ≤ k
  pub high : k ≤ most
  pub one_bit : ones k ≡ 1

abbrev pub IsPermitted : ℕ → Type 0
IsPermitted k = IsPermittedTo most_batches k

abbrev pub permitted : ℕ → ℕ → Bool
permitted most k = leb 1 k && (leb k most && eqb (ones k) 1)

-- so many words of a tap list are k batches
abbrev pub tap_word_batches : ℕ → ℕ
tap_word_batches words = words / 12

-- whether a list of taps has so many words, k permitted
abbrev pub is_tap_length : ℕ → ℕ → Bool
is_tap_length most words = eqb (words % 12) 4 && permitted most (tap_word_batches words)

-- so many words of a trace are k batches
abbrev pub trace_word_batches : ℕ → ℕ
trace_word_batches words = words / batch_words

-- whether a trace has so many words, k permitted
abbrev pub is_trace_length : ℕ → ℕ → Bool
is_trace_length most words = eqb (words % batch_words) 0 && permitted most (trace_word_batches words)

-- k where the test says yes
abbrev pub batches_if : Bool → ℕ → Option ℕ
batches_if ok k = choose ok (Some k) None
