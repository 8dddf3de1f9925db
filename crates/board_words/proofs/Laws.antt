-- An element's three words spell it, and no other element has them: the words of a list of elements are read as those
-- elements.
-- Assumes nothing.
use mathlib.Core.Path.{◌≡◌, refl, sym, ap, ap₂, ◌∙◌}
use mathlib.Core.List.{List, [], ◌∷◌, ◌++◌}
use Prim.Native.Nat.{ℕ, ◌+◌, ◌*◌, ◌/◌, ◌%◌, ◌^◌, ◌<◌, ◌≤◌}
use native.Mathlib.Nat.{mod-eq_of_lt}
use native.Mathlib.Omega.{arith}
use lib.Bits.{bit_or, or_shifted}
use lib.ListN.{length, take}
use lib.Pow.{shr-shr}
use lib.Seq.{sets, length-take-le}
use Rattle.lists.specs.Lists.{cell, each}
use Rattle.lists.proofs.Each.{each_append, each_next, length_each, cell_each}
use Rattle.lists.proofs.Stores.{sets_append, sets_all}
use Rattle.board_words.specs.Words.{joined, kind_of, payload_of, word_bytes, word_at, bytes_of}
use Rattle.board_words.specs.Elements.{element_words, words_of, element_of, element_at}
use Rattle.board_words.proofs.Shifts.{above}
use Rattle.board_words.proofs.Words.{length_bytes}

-- three payloads joined by shifts, where the first is below 16
pub spelled : (a b c : ℕ) → a < 2 ^ 4 → b < 2 ^ 30 → c < 2 ^ 30
    → bit_or (bit_or (a * 2 ^ 60 % 2 ^ 64) (b * 2 ^ 30 % 2 ^ 64)) c ≡ a * 2 ^ 60 + b * 2 ^ 30 + c
spelled a b c ha hb hc =
    let small : b * 2 ^ 30 % 2 ^ 64 ≡ b * 2 ^ 30 = mod-eq_of_lt (omega arith) in
    let two = above 64 a 60 (b * 2 ^ 30 % 2 ^ 64) (omega arith) (omega arith) in
    let e : a * 2 ^ 60 + b * 2 ^ 30 % 2 ^ 64 ≡ (a * 2 ^ 30 + b) * 2 ^ 30 = omega arith in
    ap (λ (x : ℕ). bit_or x c) (two ∙ e) ∙ or_shifted (a * 2 ^ 30 + b) 30 c hc ∙ omega arith

-- a 64-bit number is what its three words spell
pub words_spell : (x : ℕ) → x < 2 ^ 64
    → element_of (joined 1 (x / 2 ^ 60)) (joined 2 (x / 2 ^ 30 % 2 ^ 30)) (joined 3 (x % 2 ^ 30)) ≡ x
words_spell x h = omega (arith, shr-shr x 30 30)

-- words of the three kinds are those of the element that they spell
pub spell_words : (a b c : ℕ) → kind_of a ≡ 1 → kind_of b ≡ 2 → kind_of c ≡ 3
    → element_words (element_of a b c) ≡ a ∷ b ∷ c ∷ []
spell_words a b c ha hb hc =
    ap₂ ◌∷◌ (omega arith) (ap₂ ◌∷◌ (omega arith) (ap (λ w. w ∷ []) (omega arith)))

-- three words of a file spell the element there
pub read_three : (file : List ℕ) (j a b c x : ℕ) → a ≡ word_at file j → b ≡ word_at file (j + 1)
    → c ≡ word_at file (j + 2) → x ≡ element_of a b c → x ≡ element_at file j
unfolding element_at
read_three file j a b c x p q r e = e ∙ rw (p, q, r)

-- a first payload above 15 makes an element of 2^64 or more
pub no_word : (file : List ℕ) (j : ℕ) → 16 ≤ payload_of (word_at file j) → 2 ^ 64 ≤ element_at file j
unfolding element_at
no_word file j h = omega arith

-- ---- writing: words, and more of them where those end
pub write_on : (l l₁ l₂ a b : List ℕ) (j m : ℕ) → length a ≡ m → l₁ ≡ sets l (4 * j) (bytes_of a)
    → l₂ ≡ sets l₁ (4 * (j + m)) (bytes_of b) → l₂ ≡ sets l (4 * j) (bytes_of (a ++ b))
write_on l l₁ l₂ a b j m size p q =
    let at : 4 * (j + m) ≡ 4 * j + length (bytes_of a) = omega (arith, size, length_bytes a) in
    q
    ∙ rw (p, at)
    (sets_append l (4 * j) (bytes_of a) (bytes_of b) ∙ ap (sets l (4 * j)) (sym (each_append word_bytes a b)))

-- one word
pub write_one : (l l₁ : List ℕ) (j a b : ℕ) → a ≡ b → l₁ ≡ sets l (4 * j) (word_bytes a)
    → l₁ ≡ sets l (4 * j) (bytes_of (b ∷ []))
unfolding each
write_one l l₁ j a b e p = p ∙ rw e

-- word 0 and all words after it, in a destination that they fill
pub write_file : (l l₁ l₂ ws : List ℕ) (v w : ℕ) → length l ≡ 4 * (1 + length ws) → v ≡ w
    → l₁ ≡ sets l 0 (word_bytes v) → l₂ ≡ sets l₁ 4 (bytes_of ws) → l₂ ≡ bytes_of (w ∷ ws)
write_file l l₁ l₂ ws v w size e p q =
    write_on l l₁ l₂ (w ∷ []) ws 0 1 refl (write_one l l₁ 0 v w e p) q
    ∙ sets_all l (bytes_of (w ∷ ws)) (length_bytes (w ∷ ws) ∙ omega (arith, size))

-- ---- lists of elements
three_words : (x : ℕ) → length (element_words x) ≡ 3
three_words x = refl

pub length_words : (xs : List ℕ) → length (words_of xs) ≡ 3 * length xs
length_words xs = length_each 3 element_words three_words xs

pub cell_words : (xs : List ℕ) (i t : ℕ) → i < length xs → t < 3
    → cell (words_of xs) (3 * i + t) ≡ cell (element_words (cell xs i)) t
cell_words xs i t h m = cell_each 3 element_words three_words xs i t h m

-- the elements passed, and the next
pub write_next : (l l₁ l₂ xs : List ℕ) (i j : ℕ) → i < length xs
    → l₁ ≡ sets l (4 * j) (bytes_of (words_of (take i xs)))
    → l₂ ≡ sets l₁ (4 * (j + 3 * i)) (bytes_of (element_words (cell xs i)))
    → l₂ ≡ sets l (4 * j) (bytes_of (words_of (take (i + 1) xs)))
write_next l l₁ l₂ xs i j h p q =
    let size : length (words_of (take i xs)) ≡ 3 * i =
    length_words (take i xs) ∙ ap (λ n. 3 * n) (length-take-le i xs (omega arith)) in
    write_on l l₁ l₂ (words_of (take i xs)) (element_words (cell xs i)) j (3 * i) size p q
    ∙ ap (λ ws. sets l (4 * j) (bytes_of ws)) (sym (each_next element_words xs i h))
