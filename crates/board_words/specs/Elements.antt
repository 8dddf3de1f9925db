-- An element of the board file, and what reading one finds (document 01, "The board file", "What is turned back").
-- Assumes nothing.
use Rattle.std.specs.Prelude.{◌≡◌, List, [], ◌∷◌, ℕ, zero, suc, ◌+◌, ◌*◌, ◌/◌, ◌%◌, ◌^◌, eqb, ltb, Ok}
use Rattle.lists.specs.Lists.{each, tab}
use Rattle.field.specs.Field.{P, Canonical}
use Rattle.refusals.specs.Answers.{Answer, unless, after}
use Rattle.refusals.specs.declared.Refusal.TheVariants.{WrongKind, WrongValue}
use Rattle.board_words.specs.Words.{joined, kind_of, payload_of, word_at}

-- ---- writing

-- each element three words: kind 1 with element div 2^60, kind 2 with the next 30 bits, kind 3 with the low 30
abbrev pub element_words : ℕ → List ℕ
element_words x = joined 1 (x / 2 ^ 60) ∷ joined 2 (x / 2 ^ 30 % 2 ^ 30) ∷ joined 3 (x % 2 ^ 30) ∷ []

-- the words of a list of elements
abbrev pub words_of : List ℕ → List ℕ
words_of xs = each element_words xs

-- ---- reading

-- the number that the payloads of three words spell, which may be 2^64 or more
abbrev pub element_of : ℕ → ℕ → ℕ → ℕ
element_of high middle low = payload_of high * 2 ^ 60 + payload_of middle * 2 ^ 30 + payload_of low

-- the element whose first word is word j of the file
unfoldable pub element_at : List ℕ → ℕ → ℕ
element_at file j = element_of (word_at file j) (word_at file (j + 1)) (word_at file (j + 2))

-- n elements, the first of them from word j on
unfoldable pub elements_at : List ℕ → ℕ → ℕ → List ℕ
elements_at file j n = tab n (λ i. element_at file (j + 3 * i))

-- what reading the element finds: its three kinds, then its value
unfoldable pub element_test : List ℕ → ℕ → Answer
element_test file j =
    unless (eqb (kind_of (word_at file j)) 1) (WrongKind j)
    (unless (eqb (kind_of (word_at file (j + 1))) 2) (WrongKind (j + 1))
    (unless (eqb (kind_of (word_at file (j + 2))) 3) (WrongKind (j + 2))
    (unless (ltb (element_at file j) P) (WrongValue j)
    (Ok tt))))

-- what reading n elements finds, element by element, the first of them from word j on
unfoldable pub elements_test : List ℕ → ℕ → ℕ → Answer
elements_test file j zero = Ok tt
elements_test file j (suc n) = after (element_test file j) (elements_test file (j + 3) n)

-- what acceptance says: the words from j on are those of a canonical element
pub record IsElement (file : List ℕ) (j : ℕ) : Type 0 where
  pub high : kind_of (word_at file j) ≡ 1
  pub middle : kind_of (word_at file (j + 1)) ≡ 2
  pub low : kind_of (word_at file (j + 2)) ≡ 3
  pub value : Canonical (element_at file j)
