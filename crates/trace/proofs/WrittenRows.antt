-- Rows written into a destination: one row, rows after rows, and all of them.
-- Assumes nothing.
use mathlib.Core.Path.{◌≡◌, sym, ap, ap₂, ◌∙◌}
use mathlib.Core.List.{List, [], ◌++◌, append_assoc, append-nil}
use Prim.Native.Nat.{ℕ, ◌+◌, ◌*◌, ◌-◌, ◌/◌, ◌%◌, ◌≤◌, ◌<◌}
use native.Mathlib.Omega.{arith}
use lib.ListN.{length, take, drop, length-append, length-take, length-drop, drop_of_length-le, take-append-drop}
use lib.Seq.{length-take-le, take_at, drop_at, drop-append-add, drop-drop, get_or-take, get_or-drop}
use Rattle.lists.specs.Lists.{cell, tab}
use Rattle.lists.proofs.Tab.{length_tab, cell_tab, tab_ext, tab_add, tab_cell}
use Rattle.field.specs.Field.{P}
use Rattle.field_words.specs.Words.{AllCanonical}
use Rattle.field_words.proofs.Laws.{append_canonical}
use Rattle.hash.proofs.States.{IsState, cell_lt, state_cell}
use Rattle.trace.specs.Trace.{row}
use Rattle.trace.specs.RowHelpers.{with_rows}

-- the cells of m rows from row a on
abbrev cells : (ℕ → List ℕ) → ℕ → ℕ → List ℕ
cells row a m = tab (12 * m) (λ n. cell (row (a + n / 12)) (n % 12))

cells_add : (row : ℕ → List ℕ) (a m p : ℕ) → cells row a (m + p) ≡ cells row a m ++ cells row (a + m) p
cells_add row a m p =
    ap (λ n. tab n f) e ∙ tab_add (12 * m) (12 * p) f ∙ ap (λ l. cells row a m ++ l) (tab_ext (12 * p) _ _ same)
  where
    f : ℕ → ℕ
    f n = cell (row (a + n / 12)) (n % 12)

    e : 12 * (m + p) ≡ 12 * m + 12 * p
    e = omega arith

    same : (i : ℕ) → i < 12 * p → f (12 * m + i) ≡ cell (row (a + m + i / 12)) (i % 12)
    same i h =
        let u : a + (12 * m + i) / 12 ≡ a + m + i / 12 = omega arith in
        let v : (12 * m + i) % 12 ≡ i % 12 = omega arith in
        ap₂ (λ x y. cell (row x) y) u v

-- no row
pub rows_none : (row : ℕ → List ℕ) (a : ℕ) (d : List ℕ) → with_rows row a a d ≡ d
unfolding with_rows tab
rows_none row a d =
    let z : 12 * (a - a) ≡ 0 = omega arith in
    ap (λ n. take (12 * a) d ++ tab n (λ i. cell (row (a + i / 12)) (i % 12)) ++ drop (12 * a) d) z
    ∙ ap (λ l. l ++ drop (12 * a) d) (append-nil (take (12 * a) d))
    ∙ take-append-drop (12 * a) d

-- one row
pub row_one : (s : List ℕ) (r : ℕ) (d : List ℕ) → length s ≡ 12
    → take (12 * r) d ++ s ++ drop (12 * r + 12) d ≡ with_rows (λ i. s) r (r + 1) d
unfolding with_rows
row_one s r d e =
    sym (ap₂ (λ x n. take (12 * r) d ++ x ++ drop n d)
    (ap (λ n. tab n (λ i. cell s (i % 12))) twelve ∙ tab_ext 12 _ _ same ∙ tab_cell 12 s e) after)
  where
    twelve : 12 * (r + 1 - r) ≡ 12
    twelve = omega arith

    after : 12 * (r + 1) ≡ 12 * r + 12
    after = omega arith

    same : (i : ℕ) → i < 12 → cell s (i % 12) ≡ cell s i
    same i h =
        let m : i % 12 ≡ i = omega arith in
        ap (cell s) m

-- rows after rows; what stands before and behind them stays
module _ (row : ℕ → List ℕ) (a b : ℕ) (d : List ℕ) (p : a ≤ b) (l : 12 * b ≤ length d) where
  front : List ℕ
  front = take (12 * a) d ++ cells row a (b - a)

  length_front : length front ≡ 12 * b
  unfolding front
  length_front =
      length-append (take (12 * a) d) _
      ∙ omega (
        arith,
        length-take-le (12 * a) d (omega arith),
        length_tab (12 * (b - a)) (λ n. cell (row (a + n / 12)) (n % 12)),
      )

  pub length_rows : length (with_rows row a b d) ≡ length d
  unfolding with_rows front
  length_rows = length-append front (drop (12 * b) d) ∙ omega (arith, length_front, length-drop (12 * b) d)

  pub rows_before_lem : take (12 * a) (with_rows row a b d) ≡ take (12 * a) d
  unfolding with_rows
  rows_before_lem =
      ap (take (12 * a)) (append_assoc (take (12 * a) d) (cells row a (b - a)) (drop (12 * b) d))
      ∙ take_at (take (12 * a) d) _ (12 * a) (length-take-le (12 * a) d (omega arith))

  pub rows_behind : drop (12 * b) (with_rows row a b d) ≡ drop (12 * b) d
  unfolding with_rows front
  rows_behind = drop_at front (drop (12 * b) d) (12 * b) length_front

  pub rows_join : (c : ℕ) → b ≤ c → with_rows row b c (with_rows row a b d) ≡ with_rows row a c d
  unfolding with_rows front
  rows_join c q =
      ap₂ (λ x y. x ++ cells row b (c - b) ++ y) (take_at front (drop (12 * b) d) (12 * b) length_front) dropped
      ∙ ap (λ x. x ++ drop (12 * c) d)
      (append_assoc (take (12 * a) d) (cells row a (b - a)) (cells row b (c - b))
      ∙ ap (λ x. take (12 * a) d ++ x) together)
    where
      u : 12 * c ≡ length front + (12 * c - 12 * b)
      u = omega (arith, length_front)

      v : 12 * b + (12 * c - 12 * b) ≡ 12 * c
      v = omega arith

      dropped : drop (12 * c) (front ++ drop (12 * b) d) ≡ drop (12 * c) d
      dropped =
          ap (λ n. drop n (front ++ drop (12 * b) d)) u
          ∙ drop-append-add front (drop (12 * b) d) (12 * c - 12 * b)
          ∙ drop-drop (12 * c - 12 * b) (12 * b) d
          ∙ ap (λ n. drop n d) v

      x : a + (b - a) ≡ b
      x = omega arith

      y : b - a + (c - b) ≡ c - a
      y = omega arith

      together : cells row a (b - a) ++ cells row b (c - b) ≡ cells row a (c - a)
      together =
          ap (λ n. cells row a (b - a) ++ cells row n (c - b)) (sym x)
          ∙ sym (cells_add row a (b - a) (c - b))
          ∙ ap (cells row a) y

-- the rows may be given otherwise
pub rows_ext : (f g : ℕ → List ℕ) (a b : ℕ) (d : List ℕ) → ((i : ℕ) → a ≤ i → i < b → f i ≡ g i)
    → with_rows f a b d ≡ with_rows g a b d
unfolding with_rows
rows_ext f g a b d h =
    ap (λ x. take (12 * a) d ++ x ++ drop (12 * b) d)
    (tab_ext (12 * (b - a)) _ _ (λ n l. ap (λ r. cell r (n % 12)) (h (a + n / 12) (omega arith) (omega arith))))

-- rows that are written over
pub rows_over : (f g : ℕ → List ℕ) (a b : ℕ) (d : List ℕ) → a ≤ b → 12 * b ≤ length d
    → with_rows f a b (with_rows g a b d) ≡ with_rows f a b d
unfolding with_rows
rows_over f g a b d p l =
    ap₂ (λ x y. x ++ cells f a (b - a) ++ y) (rows_before_lem g a b d p l) (rows_behind g a b d p l)

-- a row behind them
pub row_behind : (f : ℕ → List ℕ) (a b : ℕ) (d : List ℕ) → a ≤ b → 12 * b ≤ length d → (i : ℕ) → b ≤ i
    → row (with_rows f a b d) i ≡ row d i
unfolding row
row_behind f a b d p l i g =
    ap (take 12) (sym (split (with_rows f a b d)) ∙ ap (drop (12 * i - 12 * b)) (rows_behind f a b d p l) ∙ split d)
  where
    e : 12 * b + (12 * i - 12 * b) ≡ 12 * i
    e = omega arith

    split : (s : List ℕ) → drop (12 * i - 12 * b) (drop (12 * b) s) ≡ drop (12 * i) s
    split s = drop-drop (12 * i - 12 * b) (12 * b) s ∙ ap (λ n. drop n s) e

-- canonical rows in a canonical destination
pub rows_canonical : (f : ℕ → List ℕ) (a b : ℕ) (d : List ℕ) → ((i : ℕ) → a ≤ i → i < b → IsState (f i))
    → AllCanonical d → AllCanonical (with_rows f a b d)
unfolding with_rows
rows_canonical f a b d s c =
    append_canonical (take (12 * a) d ++ cells f a (b - a)) (drop (12 * b) d)
    (append_canonical (take (12 * a) d) (cells f a (b - a)) (λ i l. front i (omega (arith, length-take (12 * a) d)))
    (λ i l. middle i (omega (arith, length_tab (12 * (b - a)) (λ n. cell (f (a + n / 12)) (n % 12))))))
    (λ i l. omega (arith, get_or-drop (12 * b) d i 0, cell_lt d c (12 * b + i)))
  where
    front : (i : ℕ) → i < 12 * a → cell (take (12 * a) d) i < P
    front i l = omega (arith, get_or-take (12 * a) d i 0 l, cell_lt d c i)

    middle : (i : ℕ) → i < 12 * (b - a) → cell (cells f a (b - a)) i < P
    middle i l =
        omega (
          arith,
          cell_tab (12 * (b - a)) (λ n. cell (f (a + n / 12)) (n % 12)) i l,
          state_cell (s (a + i / 12) (omega arith) (omega arith)) (i % 12),
        )

-- all rows
pub rows_all : (row : ℕ → List ℕ) (k : ℕ) (d : List ℕ) → length d ≡ 12 * k
    → with_rows row 0 k d ≡ tab (12 * k) (λ n. cell (row (n / 12)) (n % 12))
unfolding with_rows
rows_all row k d e = ap₂ (λ x y. [] ++ x ++ y) same (drop_of_length-le d {i = 12 * k} (omega arith)) ∙ append-nil _
  where
    same : tab (12 * (k - 0)) (λ n. cell (row (0 + n / 12)) (n % 12)) ≡ tab (12 * k) (λ n. cell (row (n / 12)) (n % 12))
    same =
        let z : 12 * (k - 0) ≡ 12 * k = omega arith in
        ap (λ m. tab m (λ n. cell (row (0 + n / 12)) (n % 12))) z
        ∙ tab_ext (12 * k) _ _ (λ n h. let w : 0 + n / 12 ≡ n / 12 = omega arith in ap (λ i. cell (row i) (n % 12)) w)
