-- The board file's words (document 01, "The board file": 32-bit words, low byte first; the top two bits are the word's
-- kind).
-- Assumes nothing.
use Rattle.std.specs.Prelude.{List, [], ◌∷◌, ℕ, ◌+◌, ◌*◌, ◌/◌, ◌%◌, ◌^◌, ◌<◌, length}
use Rattle.lists.specs.Lists.{cell, each}
use Rattle.board_words.specs.declared.Kind.{Kind}
use Rattle.board_words.specs.declared.Kind.TheVariants.{Count, High, Middle, Low}

-- the number of a kind
abbrev pub number_of : Kind → ℕ
number_of Count = 0
number_of High = 1
number_of Middle = 2
number_of Low = 3

-- the word of a kind's number and a 30-bit payload
abbrev pub joined : ℕ → ℕ → ℕ
joined kind payload = kind * 2 ^ 30 + payload

-- its kind's number: the top two bits
abbrev pub kind_of : ℕ → ℕ
kind_of w = w / 2 ^ 30

-- its payload: the 30 bits below
abbrev pub payload_of : ℕ → ℕ
payload_of w = w % 2 ^ 30

-- a word's four bytes, low byte first
abbrev pub word_bytes : ℕ → List ℕ
word_bytes w = w % 2 ^ 8 ∷ w / 2 ^ 8 % 2 ^ 8 ∷ w / 2 ^ 16 % 2 ^ 8 ∷ w / 2 ^ 24 % 2 ^ 8 ∷ []

-- word j of a list of bytes
unfoldable pub word_at : List ℕ → ℕ → ℕ
word_at s j = cell s (4 * j) + cell s (4 * j + 1) * 2 ^ 8 + cell s (4 * j + 2) * 2 ^ 16 + cell s (4 * j + 3) * 2 ^ 24

-- every cell is a byte
abbrev pub AllBytes : List ℕ → Type 0
AllBytes s = (i : ℕ) → i < length s → cell s i < 2 ^ 8

-- the bytes of a list of words
abbrev pub bytes_of : List ℕ → List ℕ
bytes_of ws = each word_bytes ws
