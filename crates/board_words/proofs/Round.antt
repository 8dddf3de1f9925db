-- Elements that were written are read back, and elements that were accepted were written so.
-- Assumes nothing.
use mathlib.Core.Path.{◌≡◌, refl, sym, ap, ◌∙◌}
use mathlib.Core.List.{List, [], ◌∷◌, ◌++◌}
use Prim.Native.Nat.{ℕ, zero, suc, ◌+◌, ◌*◌, ◌/◌, ◌%◌, ◌^◌, ◌<◌}
use native.Mathlib.Nat.{mod-lt}
use native.Mathlib.Omega.{arith}
use lib.ListN.{length}
use Rattle.lists.specs.Lists.{cell}
use Rattle.lists.proofs.Tab.{length_tab, cell_tab, tab_ext, tab_unique, tab_add}
use Rattle.field.specs.Field.{P}
use Rattle.field_words.specs.Words.{AllCanonical}
use Rattle.board_words.specs.Words.{joined, word_at}
use Rattle.board_words.specs.Elements.{element_words, words_of, element_at, elements_at, IsElement}
use Rattle.board_words.proofs.Laws.{words_spell, spell_words, cell_words}

-- ---- one element

-- the three words of a 64-bit number are 32-bit words
pub three_below : (x t : ℕ) → x < 2 ^ 64 → t < 3 → cell (element_words x) t < 2 ^ 32
three_below x zero h m = omega arith
three_below x (suc zero) h m = omega arith
three_below x (suc (suc zero)) h m = omega arith
three_below x (suc (suc (suc t))) h m = absurd (omega arith)

-- where the three words of a canonical element stand, it is read
pub three_read : (file : List ℕ) (j x : ℕ) → x < P → ((t : ℕ) → t < 3 → word_at file (j + t) ≡ cell (element_words x) t)
    → IsElement file j × (element_at file j ≡ x)
unfolding element_at
three_read file j x h w =
    let z : j + 0 ≡ j = omega arith in
    let a : word_at file j ≡ joined 1 (x / 2 ^ 60) = rw z at (w 0 (omega arith)) in
    let b : word_at file (j + 1) ≡ joined 2 (x / 2 ^ 30 % 2 ^ 30) = w 1 (omega arith) in
    let c : word_at file (j + 2) ≡ joined 3 (x % 2 ^ 30) = w 2 (omega arith) in
    let v : element_at file j ≡ x = rw (a, b, c) (words_spell x (omega arith)) in
    (record { high = omega (arith, a); middle = omega (arith, b); low = omega (arith, c); value = rw v h }, v)

-- an accepted element has the words that stand there
pub three_words : (file : List ℕ) (j : ℕ) → IsElement file j → (t : ℕ) → t < 3
    → cell (element_words (element_at file j)) t ≡ word_at file (j + t)
unfolding element_at
three_words file j h t m = ap (λ s. cell s t) (spell_words _ _ _ h.high h.middle h.low) ∙ at t m
  where
    at : (t : ℕ) → t < 3 → cell (word_at file j ∷ word_at file (j + 1) ∷ word_at file (j + 2) ∷ []) t ≡ word_at file (j + t)
    at zero m =
        let z : j ≡ j + 0 = omega arith in
        ap (word_at file) z
    at (suc zero) m = refl
    at (suc (suc zero)) m = refl
    at (suc (suc (suc t))) m = absurd (omega arith)

-- ---- a list of elements

-- the words of canonical elements are 32-bit words
pub words_below : (xs : List ℕ) → AllCanonical xs → (m : ℕ) → m < 3 * length xs → cell (words_of xs) m < 2 ^ 32
words_below xs all m h =
    let e : m ≡ 3 * (m / 3) + m % 3 = omega arith in
    let t : m % 3 < 3 = mod-lt m (omega arith) in
    let c = all (m / 3) (omega arith) in
    rw (ap (cell (words_of xs)) e ∙ cell_words xs (m / 3) (m % 3) (omega arith) t)
    (three_below (cell xs (m / 3)) (m % 3) (omega arith) t)

-- where the words of canonical elements stand from word j on, each is accepted, and they are what is read
module _ (file : List ℕ) (j : ℕ) (xs : List ℕ) (all : AllCanonical xs)
    (words : (m : ℕ) → m < 3 * length xs → word_at file (j + m) ≡ cell (words_of xs) m) where
  element : (i : ℕ) → i < length xs → IsElement file (j + 3 * i) × (element_at file (j + 3 * i) ≡ cell xs i)
  element i h = three_read file (j + 3 * i) (cell xs i) (all i h) at
    where
      at : (t : ℕ) → t < 3 → word_at file (j + 3 * i + t) ≡ cell (element_words (cell xs i)) t
      at t m =
          let e : j + 3 * i + t ≡ j + (3 * i + t) = omega arith in
          ap (word_at file) e ∙ words (3 * i + t) (omega arith) ∙ cell_words xs i t h m

  pub read_accepted : (i : ℕ) → i < length xs → IsElement file (j + 3 * i)
  read_accepted i h = (element i h).0

  pub read_back : elements_at file j (length xs) ≡ xs
  unfolding elements_at
  read_back = sym (tab_unique (length xs) xs (λ i. element_at file (j + 3 * i)) refl (λ i h. sym (element i h).1))

-- n elements that are read, and each of them
pub length_elements : (file : List ℕ) (j n : ℕ) → length (elements_at file j n) ≡ n
unfolding elements_at
length_elements file j n = length_tab n (λ i. element_at file (j + 3 * i))

pub cell_elements : (file : List ℕ) (j n i : ℕ) → i < n → cell (elements_at file j n) i ≡ element_at file (j + 3 * i)
unfolding elements_at
cell_elements file j n i h = cell_tab n (λ i. element_at file (j + 3 * i)) i h

-- where n elements from word j on are accepted, their words are the file's
pub words_back : (file : List ℕ) (j n : ℕ) → ((i : ℕ) → i < n → IsElement file (j + 3 * i)) → (m : ℕ) → m < 3 * n
    → cell (words_of (elements_at file j n)) m ≡ word_at file (j + m)
words_back file j n h m l =
    let i : ℕ = m / 3 in
    let t : ℕ = m % 3 in
    let e : m ≡ 3 * i + t = omega arith in
    let f : j + 3 * i + t ≡ j + m = omega arith in
    let b : t < 3 = mod-lt m (omega arith) in
    ap (cell (words_of (elements_at file j n))) e
    ∙ cell_words (elements_at file j n) i t (omega (arith, length_elements file j n)) b
    ∙ ap (λ x. cell (element_words x) t) (cell_elements file j n i (omega arith))
    ∙ three_words file (j + 3 * i) (h i (omega arith)) t b
    ∙ ap (word_at file) f

-- n elements, and m more
pub elements_append : (file : List ℕ) (j n m : ℕ)
    → elements_at file j (n + m) ≡ elements_at file j n ++ elements_at file (j + 3 * n) m
unfolding elements_at
elements_append file j n m =
    tab_add n m (λ i. element_at file (j + 3 * i))
    ∙ ap (λ s. elements_at file j n ++ s) (tab_ext m _ _ (λ i h. ap (element_at file) (next i)))
  where
    next : (i : ℕ) → j + 3 * (n + i) ≡ j + 3 * n + 3 * i
    next i = omega arith

-- accepted elements are canonical
pub elements_canonical : (file : List ℕ) (j n : ℕ) → ((i : ℕ) → i < n → IsElement file (j + 3 * i))
    → AllCanonical (elements_at file j n)
elements_canonical file j n h i l =
    let b : i < n = omega (arith, length_elements file j n) in
    rw (cell_elements file j n i b) (h i b).value
