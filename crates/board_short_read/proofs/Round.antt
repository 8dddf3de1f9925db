-- Elements that were written in the short edition are read back, and elements that were accepted were written so.
-- Assumes nothing.
use mathlib.Core.Path.{◌≡◌, refl, sym, ap, ◌∙◌}
use mathlib.Core.List.{List, [], ◌∷◌, ◌++◌}
use Prim.Native.Nat.{ℕ, zero, suc, ◌+◌, ◌*◌, ◌-◌, ◌^◌, ◌≤◌, ◌<◌}
use native.Mathlib.Decide.{dec_lt}
use native.Mathlib.Omega.{arith}
use lib.ListN.{length, length-append, get_or-append}
use lib.Seq.{get_or-append-add}
use Rattle.lists.specs.Lists.{cell, tab, each}
use Rattle.lists.proofs.Tab.{length_tab, cell_tab, tab_ext, tab_add}
use Rattle.field.specs.Field.{P}
use Rattle.field_words.specs.Words.{AllCanonical}
use Rattle.board_words.specs.Words.{joined, kind_of, word_at, AllBytes, bytes_of}
use Rattle.board_words.specs.Elements.{element_words}
use Rattle.board_words.proofs.Words.{length_bytes, word_bytes_lem, bytes_unique}
use Rattle.board_words.proofs.Round as elements
use Rattle.board_short_words.specs.Short.{short_words, short_words_of}
use Rattle.board_short_read.specs.Reading.{short_at, next_word, first_word, shorts_at}
use Rattle.board_short_read.specs.Reading.{IsShortElement, one, three}
use Rattle.board_short_read.proofs.Tests.{one_at, one_next, three_at, three_next, next_within, first_add}
use Rattle.board_short_read.proofs.Tests.{not_three, first_and_later}
use Rattle.board_short_words.proofs.Words.{one_word, three_words}

-- ---- where words stand in a file

-- these words stand from word j on
pub record Stands (file : List ℕ) (j : ℕ) (ws : List ℕ) : Type 0 where
  pub room : 4 * (j + length ws) ≤ length file
  pub words : (m : ℕ) → m < length ws → word_at file (j + m) ≡ cell ws m

stands_at : (file ws : List ℕ) (i j : ℕ) → i ≡ j → Stands file i ws → Stands file j ws
stands_at file ws i j e s = rw e at s

module _ (file : List ℕ) (j : ℕ) (a b : List ℕ) where
  stands_first : Stands file j (a ++ b) → Stands file j a
  stands_first s = record {
    room = omega (arith, s.room, length-append a b);
    words = λ m h. s.words m (omega (arith, length-append a b)) ∙ get_or-append a b 0 m h;
  }

  pub stands_rest : Stands file j (a ++ b) → Stands file (j + length a) b
  stands_rest s = record {
    room = omega (arith, s.room, length-append a b);
    words = λ m h.
        let e : j + length a + m ≡ j + (length a + m) = omega arith in
        ap (word_at file) e ∙ s.words (length a + m) (omega (arith, length-append a b)) ∙ get_or-append-add a b m 0;
  }

  pub stands_both : Stands file j a → Stands file (j + length a) b → Stands file j (a ++ b)
  stands_both s t = record { room = omega (arith, t.room, length-append a b); words = at }
    where
      at : (m : ℕ) → m < length (a ++ b) → word_at file (j + m) ≡ cell (a ++ b) m
      at m h = go (dec_lt m (length a))
        where
          go : Dec (m < length a) → word_at file (j + m) ≡ cell (a ++ b) m
          go (yes l) = s.words m l ∙ sym (get_or-append a b 0 m l)
          go (no l) = later (m - length a) (omega arith)
            where
              later : (n : ℕ) → m ≡ length a + n → word_at file (j + m) ≡ cell (a ++ b) m
              later n e =
                  let f : j + m ≡ j + length a + n = omega arith in
                  ap (word_at file) f
                  ∙ t.words n (omega (arith, length-append a b))
                  ∙ sym (ap (cell (a ++ b)) e ∙ get_or-append-add a b n 0)

-- 32-bit words stand in their bytes
pub bytes_stand : (ws : List ℕ) → ((m : ℕ) → m < length ws → cell ws m < 2 ^ 32) → Stands (bytes_of ws) 0 ws
bytes_stand ws below = record {
  room = omega (arith, length_bytes ws);
  words = λ m h.
      let z : 0 + m ≡ m = omega arith in
      ap (word_at (bytes_of ws)) z ∙ word_bytes_lem ws m h (below m h);
}

-- and a file that they fill is that of these bytes
pub stands_unique : (file ws : List ℕ) → AllBytes file → Stands file 0 ws → length file ≡ 4 * length ws
    → bytes_of ws ≡ file
stands_unique file ws bytes s size =
    bytes_unique file ws bytes size
    (λ m h. sym (s.words m h) ∙ (let z : 0 + m ≡ m = omega arith in ap (word_at file) z))

-- ---- one element

-- where the words of a canonical element stand, it is read, and they end where the next begins
pub record Reads (file : List ℕ) (j x : ℕ) : Type 0 where
  pub is : IsShortElement file j
  pub value : short_at file j ≡ x
  pub next : next_word file j ≡ j + length (short_words x)

stands_read : (file : List ℕ) (j x : ℕ) → x < P → Stands file j (short_words x) → Reads file j x
stands_read file j x canonical s = go (dec_lt x (2 ^ 30))
  where
    z : j + 0 ≡ j
    z = omega arith

    go : Dec (x < 2 ^ 30) → Reads file j x
    go (yes h) =
        let ws = one_word x h in
        let s' : Stands file j (joined 3 x ∷ []) = rw ws at s in
        let w : word_at file j ≡ joined 3 x = ap (word_at file) (sym z) ∙ s'.words 0 (omega arith) in
        let k : kind_of (word_at file j) ≡ 3 = omega (arith, w) in
        record {
          is = one (omega (arith, s'.room)) k;
          value = one_at file j k ∙ omega (arith, w);
          next = one_next file j k ∙ sym (ap (λ l. j + length l) ws);
        }
    go (no h) =
        let ws = three_words x (omega arith) in
        let s' : Stands file j (element_words x) = rw ws at s in
        let r = elements.three_read file j x canonical s'.words in
        let k = not_three r.0.high in
        record {
          is = three (omega (arith, s'.room)) r.0 (rw r.1 (omega arith));
          value = three_at file j k ∙ r.1;
          next = three_next file j k ∙ sym (ap (λ l. j + length l) ws);
        }

-- an accepted element is canonical, and its words are those that stand there
pub record Written (file : List ℕ) (j : ℕ) : Type 0 where
  pub canonical : short_at file j < P
  pub stands : Stands file j (short_words (short_at file j))
  pub next : next_word file j ≡ j + length (short_words (short_at file j))

pub written : (file : List ℕ) (j : ℕ) → IsShortElement file j → Written file j
written file j (one h k) =
    let v = one_at file j k in
    let small : short_at file j < 2 ^ 30 = omega (arith, v) in
    let ws = one_word (short_at file j) small in
    record {
      canonical = omega arith;
      stands = rw ws (record {
        room = omega arith;
        words = λ m l.
            let at : m ≡ 0 = omega arith in
            let z : j + 0 ≡ j = omega arith in
            rw (at, z) (omega (arith, v, k));
      });
      next = one_next file j k ∙ sym (ap (λ l. j + length l) ws);
    }
written file j (three h is large) =
    let k = not_three is.high in
    let v = three_at file j k in
    let ws = three_words (short_at file j) (rw v large) in
    record {
      canonical = rw v is.value;
      stands = rw (ws, v)
          (record { room = omega arith; words = λ m l. sym (elements.three_words file j is m l) });
      next = three_next file j k ∙ sym (ap (λ l. j + length l) ws);
    }

-- ---- a list of elements

-- the words of canonical elements are 32-bit words
one_below : (x t : ℕ) → x < P → t < length (short_words x) → cell (short_words x) t < 2 ^ 32
one_below x t canonical h = go (dec_lt x (2 ^ 30))
  where
    go : Dec (x < 2 ^ 30) → cell (short_words x) t < 2 ^ 32
    go (yes small) =
        let ws = one_word x small in
        let l : t < 1 = rw ws at h in
        let z : t ≡ 0 = omega arith in
        rw (ws, z) (omega arith)
    go (no large) =
        let ws = three_words x (omega arith) in
        rw ws (elements.three_below x t (omega arith) (rw ws at h))

pub words_below : (xs : List ℕ) → AllCanonical xs → (m : ℕ) → m < length (short_words_of xs)
    → cell (short_words_of xs) m < 2 ^ 32
unfolding each
words_below [] all m h = absurd (omega arith)
words_below (x ∷ xs) all m h =
    go (dec_lt m (length (short_words x))) (words_below xs (λ i l. all (suc i) (omega arith)))
  where
    go : Dec (m < length (short_words x)) → ((n : ℕ) → n < length (short_words_of xs) → cell (short_words_of xs) n < 2 ^ 32)
        → cell (short_words x ++ short_words_of xs) m < 2 ^ 32
    go (yes l) rest =
        rw (get_or-append (short_words x) (short_words_of xs) 0 m l) (one_below x m (all 0 (omega arith)) l)
    go (no l) rest = later (m - length (short_words x)) (omega arith)
      where
        later : (n : ℕ) → m ≡ length (short_words x) + n → cell (short_words x ++ short_words_of xs) m < 2 ^ 32
        later n e =
            rw (ap (cell (short_words x ++ short_words_of xs)) e ∙ get_or-append-add (short_words x) (short_words_of xs) n 0)
            (rest n (omega (arith, h, length-append (short_words x) (short_words_of xs))))

-- where the words of canonical elements stand from word j on, they are what is read
pub record ReadsAll (file : List ℕ) (j : ℕ) (xs : List ℕ) : Type 0 where
  pub elements : (i : ℕ) → i < length xs → IsShortElement file (first_word file j i)
  pub values : shorts_at file j (length xs) ≡ xs
  pub ends : first_word file j (length xs) ≡ j + length (short_words_of xs)

pub stands_read_all : (file : List ℕ) (j : ℕ) (xs : List ℕ) → AllCanonical xs → Stands file j (short_words_of xs)
    → ReadsAll file j xs
unfolding first_word shorts_at tab each
stands_read_all file j [] all s = record { elements = λ i h. absurd (omega arith); values = refl; ends = omega arith }
stands_read_all file j (x ∷ xs) all s =
    let first = stands_read file j x (all 0 (omega arith)) (stands_first file j (short_words x) (short_words_of xs) s) in
    let s' =
    stands_at file (short_words_of xs) _ _ (sym first.next) (stands_rest file j (short_words x) (short_words_of xs) s) in
    let rest = stands_read_all file (next_word file j) xs (λ i l. all (suc i) (omega arith)) s' in
    record {
      elements = first_and_later first.is rest.elements;
      values = rw first.value (ap (λ l. x ∷ l) rest.values);
      ends = rest.ends ∙ omega (arith, first.next, length-append (short_words x) (short_words_of xs));
    }

-- n elements that are read, and each of them
pub length_shorts : (file : List ℕ) (j n : ℕ) → length (shorts_at file j n) ≡ n
unfolding shorts_at
length_shorts file j n = length_tab n (λ i. short_at file (first_word file j i))

pub cell_shorts : (file : List ℕ) (j n i : ℕ) → i < n → cell (shorts_at file j n) i ≡ short_at file (first_word file j i)
unfolding shorts_at
cell_shorts file j n i h = cell_tab n (λ i. short_at file (first_word file j i)) i h

-- where n elements from word j on are accepted, they are canonical
pub shorts_canonical : (file : List ℕ) (j n : ℕ) → ((i : ℕ) → i < n → IsShortElement file (first_word file j i))
    → AllCanonical (shorts_at file j n)
shorts_canonical file j n h i l =
    let b : i < n = omega (arith, length_shorts file j n) in
    rw (cell_shorts file j n i b) (written file (first_word file j i) (h i b)).canonical

-- and their words are the file's
pub record WrittenAll (file : List ℕ) (j n : ℕ) : Type 0 where
  pub stands : Stands file j (short_words_of (shorts_at file j n))
  pub ends : first_word file j n ≡ j + length (short_words_of (shorts_at file j n))

pub written_all : (file : List ℕ) (j n : ℕ) → 4 * j ≤ length file
    → ((i : ℕ) → i < n → IsShortElement file (first_word file j i)) → WrittenAll file j n
unfolding first_word shorts_at tab each
written_all file j zero h is = record {
  stands = record { room = omega arith; words = λ m l. absurd (omega arith) };
  ends = omega arith;
}
written_all file j (suc n) h is =
    let first = written file j (is 0 (omega arith)) in
    let later = written_all file (next_word file j) n (next_within file j (is 0 (omega arith)))
    (λ i l. is (suc i) (omega arith)) in
    let ws : List ℕ = short_words_of (shorts_at file (next_word file j) n) in
    record {
      stands = stands_both file j (short_words (short_at file j)) ws first.stands
          (stands_at file ws _ _ first.next later.stands);
      ends = later.ends ∙ omega (arith, first.next, length-append (short_words (short_at file j)) ws);
    }

-- n elements, and m more
pub shorts_append : (file : List ℕ) (j n m : ℕ)
    → shorts_at file j (n + m) ≡ shorts_at file j n ++ shorts_at file (first_word file j n) m
unfolding shorts_at
shorts_append file j n m =
    tab_add n m (λ i. short_at file (first_word file j i))
    ∙ ap (λ s. shorts_at file j n ++ s) (tab_ext m _ _ (λ i h. ap (short_at file) (first_add file j n i)))
