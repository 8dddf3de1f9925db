-- The words of an element in the short edition (document 02, U7). Words, and elements of three words, are the full
-- edition's.
-- Assumes nothing.
use Rattle.std.specs.Prelude.{Bool, List, [], ◌∷◌, ℕ, ◌+◌, ◌*◌, ◌^◌, ltb, length}
use Rattle.lists.specs.Lists.{choose, cell, each, sum}
use Rattle.board_words.specs.Words.{joined, payload_of}
use Rattle.board_words.specs.Elements.{element_words}

-- an element below 2^30
abbrev pub is_small : ℕ → Bool
is_small x = ltb x (2 ^ 30)

-- is one word of kind 3; any other keeps its three
abbrev pub short_words : ℕ → List ℕ
short_words x = choose (is_small x) (joined 3 x ∷ []) (element_words x)

-- the words of a list of elements
abbrev pub short_words_of : List ℕ → List ℕ
short_words_of xs = each short_words xs

-- the number that the payloads of words spell after n, 30 bits each
abbrev pub spelled : ℕ → List ℕ → ℕ
spelled n [] = n
spelled n (w ∷ ws) = spelled (n * 2 ^ 30 + payload_of w) ws

-- the bytes that an element needs, one that is not canonical counting as three words
abbrev pub bytes_needed : ℕ → ℕ
bytes_needed x = choose (is_small x) 4 12

-- and all elements of a list
unfoldable pub all_bytes_needed : List ℕ → ℕ
all_bytes_needed xs = sum (length xs) (λ i. bytes_needed (cell xs i))
