-- The words of elements in the short edition: one or three, how many bytes they need, and the stores that write them.
-- Assumes nothing.
use mathlib.Core.Path.{◌≡◌, refl, sym, ap, ap₂, ◌∙◌}
use mathlib.Core.Bool.{Bool, true, false}
use mathlib.Core.List.{List, [], ◌∷◌, ◌++◌}
use Prim.Native.Nat.{ℕ, zero, suc, ◌+◌, ◌*◌, ◌/◌, ◌%◌, ◌^◌, ◌≤◌, ◌<◌}
use native.Mathlib.Decide.{ℕ_discrete, dec_le, dec_lt}
use native.Mathlib.Nat.{mod-eq_of_lt}
use native.Mathlib.Numerals.{add-one}
use native.Mathlib.Omega.{arith}
use borrow.Author.Tests.{eq-eqb, ne_eqb, le-leb, lt-leb, lt-ltb, le-ltb}
use lib.Dec.{eqb, leb}
use lib.ListN.{length, length-append, take, drop, take-append-drop}
use lib.Seq.{sets, take-length}
use Rattle.lists.specs.Lists.{choose, cell, each, sum}
use Rattle.lists.proofs.Each.{each_append, each_next}
use Rattle.lists.proofs.Sum.{sum_zero, sum_suc, all_0, each_0}
use Rattle.field.specs.Field.{P}
use Rattle.field_words.specs.Words.{canonical_words}
use Rattle.field_words.proofs.Laws.{test_good, good_test}
use Rattle.board_words.specs.Words.{joined, bytes_of}
use Rattle.board_words.specs.Elements.{element_words}
use Rattle.board_words.specs.ElementHelpers.{upper_words}
use Rattle.board_words.proofs.Laws.{write_on}
use Rattle.board_short_words.specs.MeasureHelpers.{bad_count}
use Rattle.board_short_words.specs.Short.{is_small, short_words, short_words_of, bytes_needed, all_bytes_needed}

-- 1 for an element that one word does not hold, and for one that is not canonical; else 0
abbrev pub is_three : ℕ → ℕ
is_three x = choose (is_small x) 0 1

abbrev pub is_bad : ℕ → ℕ
is_bad x = choose (leb P x) 1 0

-- ---- one element: below 2^30, or not
pub one_word : (x : ℕ) → x < 2 ^ 30 → short_words x ≡ joined 3 x ∷ []
one_word x h = rw (lt-ltb _ _ h)

pub three_words : (x : ℕ) → 2 ^ 30 ≤ x → short_words x ≡ element_words x
three_words x h = rw (le-ltb _ _ h)

-- the number of its words, by the test
pub one_length : (x : ℕ) → is_small x ≡ true → length (short_words x) ≡ 1
one_length x e = rw e

pub three_length : (x : ℕ) → is_small x ≡ false → length (short_words x) ≡ 3
three_length x e = rw e

-- what is carried, and what it says of the bytes
pub takes_three_is : (x : ℕ) → x < 2 ^ 64 → (x / 2 ^ 30 + 0x3ffffffff) / 2 ^ 34 ≡ choose (is_small x) 0 1
takes_three_is x fits = go (dec_lt x (2 ^ 30))
  where
    go : Dec (x < 2 ^ 30) → (x / 2 ^ 30 + 0x3ffffffff) / 2 ^ 34 ≡ choose (is_small x) 0 1
    go (yes h) = rw (lt-ltb _ _ h) (omega arith)
    go (no h) = rw (le-ltb x (2 ^ 30) (omega arith)) (omega arith)

needed_is : (x : ℕ) → bytes_needed x ≡ 4 + 8 * choose (is_small x) 0 1
needed_is x = go (dec_lt x (2 ^ 30))
  where
    go : Dec (x < 2 ^ 30) → bytes_needed x ≡ 4 + 8 * choose (is_small x) 0 1
    go (yes h) = rw (lt-ltb _ _ h)
    go (no h) = rw (le-ltb x (2 ^ 30) (omega arith))

pub most_one : (x r : ℕ) → r ≡ choose (is_small x) 0 1 → r ≤ 1
most_one x r e = rw e (go (dec_lt x (2 ^ 30)))
  where
    go : Dec (x < 2 ^ 30) → choose (is_small x) 0 1 ≤ 1
    go (yes h) = rw (lt-ltb _ _ h) (omega arith)
    go (no h) = rw (le-ltb x (2 ^ 30) (omega arith)) (omega arith)

words_needed : (x : ℕ) → 4 * length (short_words x) ≡ bytes_needed x
words_needed x = go (dec_lt x (2 ^ 30))
  where
    go : Dec (x < 2 ^ 30) → 4 * length (short_words x) ≡ bytes_needed x
    go (yes h) = rw (lt-ltb _ _ h)
    go (no h) = rw (le-ltb x (2 ^ 30) (omega arith))

-- ---- the stores that write one: its words but the last, then the last
pub write_none : (l : List ℕ) (j x : ℕ) → is_small x ≡ true
    → l ≡ sets l (4 * j) (bytes_of (choose (is_small x) [] (upper_words x)))
unfolding each
write_none l j x e = rw e

pub write_two : (l l₁ : List ℕ) (j x : ℕ) → is_small x ≡ false → l₁ ≡ sets l (4 * j) (bytes_of (upper_words x))
    → l₁ ≡ sets l (4 * j) (bytes_of (choose (is_small x) [] (upper_words x)))
write_two l l₁ j x e p = p ∙ rw e

last_word : (x : ℕ) → choose (is_small x) [] (upper_words x) ++ (joined 3 (x % 2 ^ 30) ∷ []) ≡ short_words x
last_word x = go (dec_lt x (2 ^ 30))
  where
    go : Dec (x < 2 ^ 30) → choose (is_small x) [] (upper_words x) ++ (joined 3 (x % 2 ^ 30) ∷ []) ≡ short_words x
    go (yes h) = rw (lt-ltb _ _ h) (ap (λ n. joined 3 n ∷ []) (mod-eq_of_lt h))
    go (no h) = rw (le-ltb x (2 ^ 30) (omega arith))

pub write_last : (l l₁ l₂ : List ℕ) (j x last : ℕ) → last + 1 ≡ j + length (short_words x)
    → l₁ ≡ sets l (4 * j) (bytes_of (choose (is_small x) [] (upper_words x)))
    → l₂ ≡ sets l₁ (4 * last) (bytes_of (joined 3 (x % 2 ^ 30) ∷ []))
    → l₂ ≡ sets l (4 * j) (bytes_of (short_words x))
write_last l l₁ l₂ j x last e p q =
    let first : List ℕ = choose (is_small x) [] (upper_words x) in
    let low : List ℕ = joined 3 (x % 2 ^ 30) ∷ [] in
    let size : length (short_words x) ≡ length first + 1 = ap length (sym (last_word x)) ∙ length-append first low in
    let at : last ≡ j + length first = omega (arith, e, size) in
    write_on l l₁ l₂ first low j (length first) refl p (q ∙ ap (λ n. sets l₁ (4 * n) (bytes_of low)) at)
    ∙ ap (λ ws. sets l (4 * j) (bytes_of ws)) (last_word x)

-- ---- the first i elements of a list, and the next
pub length_next : (xs : List ℕ) (i : ℕ) → i < length xs
    → length (short_words_of (take (i + 1) xs)) ≡ length (short_words_of (take i xs)) + length (short_words (cell xs i))
length_next xs i h =
    ap length (each_next short_words xs i h) ∙ length-append (short_words_of (take i xs)) (short_words (cell xs i))

pub next_fits : (xs : List ℕ) (i : ℕ) → i < length xs
    → length (short_words_of (take i xs)) + length (short_words (cell xs i)) ≤ length (short_words_of xs)
next_fits xs i h =
    let parts : length (short_words_of xs) ≡ length (short_words_of (take (i + 1) xs) ++ short_words_of (drop (i + 1) xs)) =
    ap (λ s. length (short_words_of s)) (sym (take-append-drop (i + 1) xs))
    ∙ ap length (each_append short_words (take (i + 1) xs) (drop (i + 1) xs)) in
    omega (
      arith,
      parts,
      length-append (short_words_of (take (i + 1) xs)) (short_words_of (drop (i + 1) xs)),
      length_next xs i h,
    )

pub write_next : (l l₁ l₂ xs : List ℕ) (i j at : ℕ) → i < length xs
    → at ≡ j + length (short_words_of (take i xs))
    → l₁ ≡ sets l (4 * j) (bytes_of (short_words_of (take i xs)))
    → l₂ ≡ sets l₁ (4 * at) (bytes_of (short_words (cell xs i)))
    → l₂ ≡ sets l (4 * j) (bytes_of (short_words_of (take (i + 1) xs)))
write_next l l₁ l₂ xs i j at h e p q =
    write_on l l₁ l₂ (short_words_of (take i xs)) (short_words (cell xs i)) j _ refl p
    (q ∙ ap (λ n. sets l₁ (4 * n) (bytes_of (short_words (cell xs i)))) e)
    ∙ ap (λ ws. sets l (4 * j) (bytes_of ws)) (sym (each_next short_words xs i h))

-- the bytes that they need: 4 each, and 8 more for each that one word does not hold
threes_count : (xs : List ℕ) (i : ℕ)
    → sum i (λ n. bytes_needed (cell xs n)) ≡ 4 * i + 8 * sum i (λ n. choose (is_small (cell xs n)) 0 1)
threes_count xs zero = rw (sum_zero (λ n. bytes_needed (cell xs n)), sum_zero (λ n. choose (is_small (cell xs n)) 0 1))
threes_count xs (suc i) =
    omega (
      arith,
      sum_suc i (λ n. bytes_needed (cell xs n)),
      sum_suc i (λ n. choose (is_small (cell xs n)) 0 1),
      needed_is (cell xs i),
      threes_count xs i,
    )

-- one element more is counted, by a measure of it
pub count_next : (f : ℕ → ℕ) (xs : List ℕ) (i n r : ℕ) → n ≡ sum i (λ m. f (cell xs m)) → r ≡ f (cell xs i)
    → n + r ≡ sum (i + 1) (λ m. f (cell xs m))
count_next f xs i n r p q =
    ap₂ (λ a b. a + b) p q
    ∙ sym (sum_suc i (λ m. f (cell xs m)))
    ∙ ap (λ k. sum k (λ m. f (cell xs m))) (sym (add-one i))

pub threes_all : (xs : List ℕ) (i threes : ℕ) → i ≡ length xs → threes ≡ sum i (λ n. choose (is_small (cell xs n)) 0 1)
    → 4 * length xs + 8 * threes ≡ all_bytes_needed xs
unfolding all_bytes_needed
threes_all xs i threes e p =
    let q : threes ≡ sum (length xs) (λ n. choose (is_small (cell xs n)) 0 1) = rw e at p in
    ap (λ n. 4 * length xs + 8 * n) q ∙ sym (threes_count xs (length xs))

-- ---- the elements that are not canonical

-- half of the word, rounded up, carries from half of p on
pub carried_bad : (x : ℕ) → x < 2 ^ 64 → (x / 2 + x % 2 + 8070450489298255871) / 2 ^ 63 ≡ is_bad x
carried_bad x fits = go (dec_le P x)
  where
    go : Dec (P ≤ x) → (x / 2 + x % 2 + 8070450489298255871) / 2 ^ 63 ≡ is_bad x
    go (yes h) = rw (le-leb _ _ h) (omega arith)
    go (no h) = rw (lt-leb P x (omega (arith, h))) (omega (arith, h))

pub one_bad : (x r : ℕ) → r ≡ is_bad x → r ≤ 1
one_bad x r e = go (leb P x) e
  where
    go : (b : Bool) → r ≡ choose b 1 0 → r ≤ 1
    go true q = omega (arith, q)
    go false q = omega (arith, q)

pub bad_all : (xs : List ℕ) (i bad : ℕ) → i ≡ length xs → bad ≡ sum i (λ n. is_bad (cell xs n)) → bad ≡ bad_count xs
unfolding bad_count
bad_all xs i bad e p = p ∙ ap (λ n. sum n (λ m. is_bad (cell xs m))) e

-- none is counted exactly where all words are canonical
bad_canonical : (x : ℕ) → is_bad x ≡ 0 → x < P
bad_canonical x e = go (dec_le P x)
  where
    go : Dec (P ≤ x) → x < P
    go (no h) = omega (arith, h)
    go (yes h) = absurd (let z : ◌≡◌ {A = ℕ} 1 0 = rw (le-leb P x h) at e in omega (arith, z))

canonical_bad : (x : ℕ) → x < P → is_bad x ≡ 0
canonical_bad x h = rw (lt-leb P x h)

pub none_bad : (xs : List ℕ) → eqb (bad_count xs) 0 ≡ canonical_words xs
unfolding bad_count
none_bad xs = go (ℕ_discrete (bad_count xs) 0)
  where
    f : ℕ → ℕ
    f n = is_bad (cell xs n)

    none : canonical_words xs ≡ true → bad_count xs ≡ 0
    none c = all_0 (length xs) f (λ n h. canonical_bad (cell xs n) (good_test xs c n h))

    some : (bad_count xs ≡ 0 → ⊥) → (b : Bool) → canonical_words xs ≡ b → canonical_words xs ≡ false
    some n true c = absurd (n (none c))
    some n false c = c

    go : Dec (bad_count xs ≡ 0) → eqb (bad_count xs) 0 ≡ canonical_words xs
    go (yes z) =
        let good = test_good xs (λ n h. bad_canonical (cell xs n) (each_0 (length xs) f z n h)) in
        eq-eqb (bad_count xs) 0 z ∙ sym good
    go (no n) = ne_eqb (bad_count xs) 0 n ∙ sym (some n (canonical_words xs) refl)

-- and their words are as long
needed_to : (xs : List ℕ) (i : ℕ) → i ≤ length xs
    → 4 * length (short_words_of (take i xs)) ≡ sum i (λ n. bytes_needed (cell xs n))
unfolding each
needed_to xs zero h = sym (sum_zero (λ n. bytes_needed (cell xs n)))
needed_to xs (suc i) h =
    let e : suc i ≡ i + 1 = omega arith in
    omega (
      arith,
      ap (λ n. length (short_words_of (take n xs))) e,
      length_next xs i (omega arith),
      words_needed (cell xs i),
      needed_to xs i (omega arith),
      sum_suc i (λ n. bytes_needed (cell xs n)),
    )

pub all_needed : (xs : List ℕ) → 4 * length (short_words_of xs) ≡ all_bytes_needed xs
unfolding all_bytes_needed
all_needed xs =
    ap (λ s. 4 * length (short_words_of s)) (sym (take-length xs)) ∙ needed_to xs (length xs) (omega arith)

-- of two lists, one after the other
pub needed_append : (a b : List ℕ) → all_bytes_needed (a ++ b) ≡ all_bytes_needed a + all_bytes_needed b
needed_append a b =
    let words : length (short_words_of (a ++ b)) ≡ length (short_words_of a) + length (short_words_of b) =
    ap length (each_append short_words a b) ∙ length-append (short_words_of a) (short_words_of b) in
    omega (arith, words, all_needed a, all_needed b, all_needed (a ++ b))

-- one word each where one holds each, three where one holds none, and never more
needed_each : (xs : List ℕ) (c : ℕ) → ((i : ℕ) → i < length xs → bytes_needed (cell xs i) ≡ c)
    → all_bytes_needed xs ≡ c * length xs
unfolding all_bytes_needed
needed_each xs c h = go (length xs) (omega arith)
  where
    go : (i : ℕ) → i ≤ length xs → sum i (λ n. bytes_needed (cell xs n)) ≡ c * i
    go zero l = omega (arith, sum_zero (λ n. bytes_needed (cell xs n)))
    go (suc i) l =
        omega (arith, sum_suc i (λ n. bytes_needed (cell xs n)), h i (omega arith), go i (omega arith))

pub needed_least : (xs : List ℕ) → ((i : ℕ) → i < length xs → cell xs i < 2 ^ 30) → all_bytes_needed xs ≡ 4 * length xs
needed_least xs h = needed_each xs 4 (λ i l. rw (lt-ltb _ _ (h i l)))

pub needed_whole : (xs : List ℕ) → ((i : ℕ) → i < length xs → 2 ^ 30 ≤ cell xs i) → all_bytes_needed xs ≡ 12 * length xs
needed_whole xs h = needed_each xs 12 (λ i l. rw (le-ltb _ _ (h i l)))

pub needed_most : (xs : List ℕ) → all_bytes_needed xs ≤ 12 * length xs
unfolding all_bytes_needed
needed_most xs = go (length xs)
  where
    go : (i : ℕ) → sum i (λ n. bytes_needed (cell xs n)) ≤ 12 * i
    go zero = omega (arith, sum_zero (λ n. bytes_needed (cell xs n)))
    go (suc i) =
        let one = most_one (cell xs i) (choose (is_small (cell xs i)) 0 1) refl in
        omega (arith, sum_suc i (λ n. bytes_needed (cell xs n)), needed_is (cell xs i), one, go i)
