-- Lists by their cells, lists that a loop fills from the front, and parts of a list.
-- Assumes nothing.
use mathlib.Core.Path.{◌≡◌, refl, sym, ap, ap₂, ◌∙◌}
use mathlib.Core.List.{List, [], ◌∷◌, ◌++◌, append-nil}
use Prim.Native.Nat.{ℕ, zero, suc, ◌+◌, ◌-◌, ◌<◌, ◌≤◌}
use native.Mathlib.Nat.{zero-add, suc-add, add-zero, le_of_suc-le-suc}
use native.Mathlib.Numerals.{add-one}
use native.Mathlib.Omega.{arith}
use lib.ListN.{length, get_or, take, drop, set, length-append}
use lib.ListN.{length-drop, length-set, drop_of_length-le, get_or-append}
use lib.Seq.{drop-cons, append_snoc, set-append_seam, get_or-append-add, ext_get_or, get_or-drop, get_or-take}
use lib.Seq.{length-take-le}
use Rattle.lists.specs.Lists.{tab, cell}

pub length_tab : (n : ℕ) (f : ℕ → ℕ) → length (tab n f) ≡ n
unfolding tab
length_tab zero f = refl
length_tab (suc n) f = ap suc (length_tab n (λ i. f (suc i)))

pub cell_tab : (n : ℕ) (f : ℕ → ℕ) (i : ℕ) → i < n → cell (tab n f) i ≡ f i
unfolding tab
cell_tab zero f i h = absurd (omega arith)
cell_tab (suc n) f zero h = refl
cell_tab (suc n) f (suc i) h = cell_tab n (λ j. f (suc j)) i (le_of_suc-le-suc h)

pub tab_ext : (n : ℕ) (f g : ℕ → ℕ) → ((i : ℕ) → i < n → f i ≡ g i) → tab n f ≡ tab n g
unfolding tab
tab_ext zero f g h = refl
tab_ext (suc n) f g h =
    ap₂ ◌∷◌ (h 0 (omega arith)) (tab_ext n (λ i. f (suc i)) (λ i. g (suc i)) (λ i l. h (suc i) (omega arith)))

-- a list of n numbers is the one with its cells
pub tab_cell : (n : ℕ) (s : List ℕ) → length s ≡ n → tab n (cell s) ≡ s
tab_cell n s e =
    ext_get_or 0 (tab n (cell s)) s (length_tab n (cell s) ∙ sym e)
    (λ i h. cell_tab n (cell s) i (omega (arith, length_tab n (cell s))))

-- a list with the cells of f is f's
pub tab_unique : (n : ℕ) (s : List ℕ) (f : ℕ → ℕ) → length s ≡ n → ((i : ℕ) → i < n → cell s i ≡ f i) → s ≡ tab n f
tab_unique n s f e h = sym (tab_cell n s e) ∙ tab_ext n (cell s) f h

pub tab_add : (n m : ℕ) (f : ℕ → ℕ) → tab (n + m) f ≡ tab n f ++ tab m (λ i. f (n + i))
unfolding tab
tab_add zero m f = ap (λ k. tab k f) (zero-add m) ∙ tab_ext m f (λ i. f (0 + i)) (λ i h. ap f (sym (zero-add i)))
tab_add (suc n) m f =
    ap (λ k. tab k f) (suc-add n m)
    ∙ ap (λ l. f 0 ∷ l)
    (tab_add n m (λ i. f (suc i))
    ∙ ap (λ l. tab n (λ i. f (suc i)) ++ l)
    (tab_ext m (λ i. f (suc (n + i))) (λ i. f (suc n + i)) (λ i h. ap f (sym (suc-add n i)))))

pub tab_suc : (n : ℕ) (f : ℕ → ℕ) → tab (suc n) f ≡ tab n f ++ (f n ∷ [])
unfolding tab
tab_suc n f = ap (λ k. tab k f) (sym (add-one n)) ∙ tab_add n 1 f ∙ ap (λ k. tab n f ++ (f k ∷ [])) (add-zero n)

-- ---- a loop that stores f i at i, for i = 0, 1, ..

-- s with its first n cells from f
unfoldable pub filled : ℕ → (ℕ → ℕ) → List ℕ → List ℕ
filled n f s = tab n f ++ drop n s

pub filled_none : (f : ℕ → ℕ) (s : List ℕ) → s ≡ filled 0 f s
unfolding filled tab
filled_none f s = refl

pub length_filled : (n : ℕ) (f : ℕ → ℕ) (s : List ℕ) → n ≤ length s → length (filled n f s) ≡ length s
unfolding filled
length_filled n f s h = length-append (tab n f) (drop n s) ∙ omega (arith, length_tab n f, length-drop n s)

pub filled_more : (f : ℕ → ℕ) (i v : ℕ) (s l : List ℕ) → i < length s → v ≡ f i → l ≡ filled i f s
    → set l i v ≡ filled (i + 1) f s
unfolding filled
filled_more f i v s l h e q =
    ap (λ x. set x i v) (q ∙ ap (λ x. tab i f ++ x) (drop-cons s i 0 h))
    ∙ ap (λ k. set (tab i f ++ get_or s i 0 ∷ drop (suc i) s) k v) (sym (length_tab i f))
    ∙ set-append_seam (tab i f) (get_or s i 0) (drop (suc i) s) v
    ∙ ap (λ x. tab i f ++ x ∷ drop (suc i) s) e
    ∙ sym (append_snoc (tab i f) (f i) (drop (suc i) s))
    ∙ ap (λ x. x ++ drop (suc i) s) (sym (tab_suc i f))
    ∙ ap (λ k. tab k f ++ drop k s) (sym (add-one i))

-- where s has no cell beyond them, they are the whole list
filled_whole : (n : ℕ) (f : ℕ → ℕ) (s : List ℕ) → length s ≤ n → filled n f s ≡ tab n f
unfolding filled
filled_whole n f s h = ap (λ x. tab n f ++ x) (drop_of_length-le s {i = n} h) ∙ append-nil (tab n f)

pub filled_all : (n : ℕ) (f : ℕ → ℕ) (s : List ℕ) → length s ≡ n → filled n f s ≡ tab n f
filled_all n f s h = filled_whole n f s (omega arith)

-- a cell that is not yet filled is as it was
pub filled_after : (n : ℕ) (f : ℕ → ℕ) (s : List ℕ) (i : ℕ) → n ≤ i → cell (filled n f s) i ≡ cell s i
unfolding filled
filled_after n f s i h =
    ap (λ k. cell (tab n f ++ drop n s) k) e
    ∙ get_or-append-add (tab n f) (drop n s) (i - n) 0
    ∙ get_or-drop n s (i - n) 0
    ∙ ap (cell s) e₂
  where
    e : i ≡ length (tab n f) + (i - n)
    e = omega (arith, length_tab n f)

    e₂ : n + (i - n) ≡ i
    e₂ = omega arith

pub filled_before : (n : ℕ) (f : ℕ → ℕ) (s : List ℕ) (i : ℕ) → i < n → cell (filled n f s) i ≡ f i
unfolding filled
filled_before n f s i h = get_or-append (tab n f) (drop n s) 0 i (omega (arith, length_tab n f)) ∙ cell_tab n f i h

-- what such a loop keeps, over a list of n cells: the first j are f's, and the others as they were in s
pub record Fills (n : ℕ) (f : ℕ → ℕ) (s : List ℕ) (j : ℕ) (l : List ℕ) : Type 0 where
  pub within : j ≤ n
  pub size : length l ≡ n
  pub so_far : l ≡ filled j f s

pub fills_none : {n : ℕ} {f : ℕ → ℕ} {s : List ℕ} → length s ≡ n → Fills n f s 0 s
fills_none e = record { within = omega arith; size = e; so_far = filled_none _ _ }

module _ {n : ℕ} {f : ℕ → ℕ} {s : List ℕ} {j : ℕ} {l : List ℕ} (h : Fills n f s j l) where
  -- the cells that are left
  left : n ≡ j + (length s - j)
  unfolding filled
  left =
      sym h.size
      ∙ ap length h.so_far
      ∙ length-append (tab j f) (drop j s)
      ∙ omega (arith, length_tab j f, length-drop j s)

  pub fills_more : {v : ℕ} → j < n → v ≡ f j → Fills n f s (j + 1) (set l j v)
  fills_more b e =
      record {
        within = omega arith;
        size = length-set l j _ ∙ h.size;
        so_far = filled_more f j _ s l (omega (arith, left)) e h.so_far;
      }

  -- the next cell is as it was
  pub fills_next : cell l j ≡ cell s j
  fills_next = ap (λ x. cell x j) h.so_far ∙ filled_after j f s j (omega arith)

  pub fills_all : n ≤ j → l ≡ tab n f
  fills_all b =
      let e : j ≡ n = omega (arith, h.within) in
      h.so_far ∙ ap (λ k. filled k f s) e ∙ filled_whole n f s (omega (arith, left, h.within))

-- ---- a part of a list
pub length_part : (l : List ℕ) (base size : ℕ) → base + size ≤ length l → length (take size (drop base l)) ≡ size
length_part l base size h = length-take-le size (drop base l) (omega (arith, length-drop base l))

pub cell_part : (l : List ℕ) (base size i : ℕ) → i < size → cell (take size (drop base l)) i ≡ cell l (base + i)
cell_part l base size i h = get_or-take size (drop base l) i 0 h ∙ get_or-drop base l i 0
