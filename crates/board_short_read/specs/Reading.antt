-- What reading an element of the short edition finds (document 02, U7). Words, and elements of three words, are the
-- full edition's.
-- Assumes nothing.
use Rattle.std.specs.Prelude.{◌≡◌, Bool, List, ℕ, zero, suc, ◌+◌, ◌*◌, ◌^◌, ◌≤◌, ◌<◌, eqb, ltb, leb, length, Ok}
use Rattle.lists.specs.Lists.{choose, tab}
use Rattle.field.specs.Field.{P}
use Rattle.refusals.specs.Answers.{Answer, unless, after}
use Rattle.refusals.specs.declared.Refusal.{Refusal}
use Rattle.refusals.specs.declared.Refusal.TheVariants.{FileLength, WrongKind, WrongValue, LongElement}
use Rattle.board_words.specs.Words.{kind_of, payload_of, word_at}
use Rattle.board_words.specs.Elements.{element_at, IsElement}

-- ---- one element

-- word j is whole
abbrev pub is_whole : List ℕ → ℕ → Bool
is_whole file j = leb (4 * j + 4) (length file)

-- the element whose first word is word j
unfoldable pub short_at : List ℕ → ℕ → ℕ
short_at file j = choose (eqb (kind_of (word_at file j)) 3) (payload_of (word_at file j)) (element_at file j)

-- the word after it
unfoldable pub next_word : List ℕ → ℕ → ℕ
next_word file j = choose (eqb (kind_of (word_at file j)) 3) (j + 1) (j + 3)

-- what reading it finds where its first word is not of kind 3, word by word: 13, 12 where the input ends; after its
-- three words 14, then 18
unfoldable pub three_test : List ℕ → ℕ → Answer
three_test file j =
    unless (eqb (kind_of (word_at file j)) 1) (WrongKind j)
    (unless (is_whole file (j + 1)) FileLength
    (unless (eqb (kind_of (word_at file (j + 1))) 2) (WrongKind (j + 1))
    (unless (is_whole file (j + 2)) FileLength
    (unless (eqb (kind_of (word_at file (j + 2))) 3) (WrongKind (j + 2))
    (unless (ltb (element_at file j) P) (WrongValue j)
    (unless (leb (2 ^ 30) (element_at file j)) (LongElement j)
    (Ok tt)))))))

-- what reading it finds: 12 where there is no first word, then by the kind of that
unfoldable pub short_test : List ℕ → ℕ → Answer
short_test file j =
    unless (is_whole file j) FileLength
    (choose (eqb (kind_of (word_at file j)) 3) (Ok tt)
    (three_test file j))

-- ---- element after element, the first of them from word j on

-- the first word of element i
unfoldable pub first_word : List ℕ → ℕ → ℕ → ℕ
first_word file j zero = j
first_word file j (suc i) = first_word file (next_word file j) i

-- n elements
unfoldable pub shorts_at : List ℕ → ℕ → ℕ → List ℕ
shorts_at file j n = tab n (λ i. short_at file (first_word file j i))

-- what reading them finds, element by element, and 12 for bytes after the last
unfoldable pub shorts_test : List ℕ → ℕ → ℕ → Answer
shorts_test file j zero = unless (eqb (4 * j) (length file)) FileLength (Ok tt)
shorts_test file j (suc n) = after (short_test file j) (shorts_test file (next_word file j) n)

-- ---- what a refusal says: the fault of the element from word j on that comes first, word by word, and then by its
-- value
pub data ElementFault (file : List ℕ) (j : ℕ) (r : Refusal) : Type 0 where
  no_first : length file < 4 * j + 4 → r ≡ FileLength → ElementFault file j r
  first_kind : 4 * j + 4 ≤ length file → (kind_of (word_at file j) ≡ 3 → ⊥) → (kind_of (word_at file j) ≡ 1 → ⊥)
      → r ≡ WrongKind j → ElementFault file j r
  no_second : 4 * j + 4 ≤ length file → kind_of (word_at file j) ≡ 1 → length file < 4 * j + 8 → r ≡ FileLength
      → ElementFault file j r
  second_kind : 4 * j + 8 ≤ length file → kind_of (word_at file j) ≡ 1 → (kind_of (word_at file (j + 1)) ≡ 2 → ⊥)
      → r ≡ WrongKind (j + 1) → ElementFault file j r
  no_third : 4 * j + 8 ≤ length file → kind_of (word_at file j) ≡ 1 → kind_of (word_at file (j + 1)) ≡ 2
      → length file < 4 * j + 12 → r ≡ FileLength → ElementFault file j r
  third_kind : 4 * j + 12 ≤ length file → kind_of (word_at file j) ≡ 1 → kind_of (word_at file (j + 1)) ≡ 2
      → (kind_of (word_at file (j + 2)) ≡ 3 → ⊥) → r ≡ WrongKind (j + 2) → ElementFault file j r
  too_large : 4 * j + 12 ≤ length file → kind_of (word_at file j) ≡ 1 → kind_of (word_at file (j + 1)) ≡ 2
      → kind_of (word_at file (j + 2)) ≡ 3 → P ≤ element_at file j → r ≡ WrongValue j → ElementFault file j r
  needless : 4 * j + 12 ≤ length file → IsElement file j → element_at file j < 2 ^ 30 → r ≡ LongElement j
      → ElementFault file j r

-- ---- what acceptance says: from word j on stands one word of kind 3, or the three of a canonical element that one
-- word does not hold
pub data IsShortElement (file : List ℕ) (j : ℕ) : Type 0 where
  one : 4 * j + 4 ≤ length file → kind_of (word_at file j) ≡ 3 → IsShortElement file j
  three : 4 * j + 12 ≤ length file → IsElement file j → 2 ^ 30 ≤ element_at file j → IsShortElement file j
