-- The whole inversion: the rows at the start, and what the answer of the elimination says of the matrix.
-- Assumes nothing.
use Prim.Native.Nat.{ℕ, ◌+◌, ◌*◌, ◌-◌, ◌/◌, ◌%◌, ◌<◌}
use mathlib.Core.Path.{◌≡◌, refl, sym, ap, ap₂, ◌∙◌, subst}
use mathlib.Core.List.{List}
use native.Mathlib.Decide.{dec_lt}
use native.Mathlib.Omega.{arith}
use lib.ListN.{length}
use lib.Seq.{ext_get_or}
use Rattle.std.specs.Prelude.{Option, Some, None}
use Rattle.lists.specs.Lists.{cell, tab}
use Rattle.lists.proofs.Tab.{length_tab, cell_tab}
use Rattle.field.specs.Field.{P, Canonical}
use Rattle.field.proofs.Power.{big}
use Rattle.field_words.specs.Words.{AllCanonical}
use Rattle.matrix.specs.Matrix.{times_column, Inverse, Kernel, entry, IsInverse}
use Rattle.matrix.proofs.Linear.{identity_lt, times_ext, product_ext}
use Rattle.matrix.proofs.Dichotomy.{Invertible, inverse_unique, not_both}
use Rattle.matrix_inverse.specs.Inversion.{Inverts}
use Rattle.matrix_inverse.specs.EliminationHelpers.{at, beside, started, right_half, Working, Zeros, Reduces, Stuck}
use Rattle.matrix_inverse.proofs.Elimination.{beside_left, beside_right, finished, stuck}

-- ---- the rows at the start
pub at_start : (m : List ℕ) (i l : ℕ) → i < 12 → l < 24 → at (started m) i l ≡ beside 12 (entry m) i l
unfolding started
at_start m i l hi hl =
    cell_tab 288 (λ t. beside 12 (entry m) (t / 24) (t % 24)) (24 * i + l) (omega arith) ∙ ap₂ (beside 12 (entry m)) p q
  where
    p : (24 * i + l) / 24 ≡ i
    p = omega arith

    q : (24 * i + l) % 24 ≡ l
    q = omega arith

pub start_working : (m : List ℕ) → length m ≡ 144 → AllCanonical m → Working (started m)
unfolding started
start_working m size h = record { size = length_tab 288 (λ t. beside 12 (entry m) (t / 24) (t % 24)); canonical = low }
  where
    low : (i l : ℕ) → i < 12 → l < 24 → Canonical (at (started m) i l)
    low i l hi hl = go (dec_lt l 12)
      where
        go : Dec (l < 12) → Canonical (at (started m) i l)
        go (yes b) =
            subst (λ y. y < P) (sym (at_start m i l hi hl ∙ beside_left 12 (entry m) i l b))
            (h (12 * i + l) (omega arith))
        go (no b) =
            subst (λ y. y < P) (sym (at_start m i l hi hl ∙ beside_right 12 (entry m) i l (omega arith)))
            (identity_lt P big i (l - 12))

-- a column that the last rows take to zeros, the matrix with the identity beside it does
under : (m v : List ℕ) → ((z : ℕ → ℕ) → Zeros v z → Zeros (started m) z) → (z : ℕ → ℕ) → Zeros v z → (i : ℕ)
    → i < 12 → times_column 24 (beside 12 (entry m)) z i ≡ 0
under m v keeps z q i hi =
    times_ext 24 (beside 12 (entry m)) (at (started m)) z z i (λ l g. sym (at_start m i l hi g)) (λ l g. refl)
    ∙ keeps z q i hi

-- ---- the answer
pub no_pivot : (m : List ℕ) → Stuck (started m) → Kernel 12 (entry m)
unfolding times_column
no_pivot m s =
    stuck 12 (entry m) (at s.rows) (under m s.rows s.reduces.keeps) s.column s.within
    s.reduces.reduced.ident s.none

pub inverted : (m v : List ℕ) → Reduces (started m) v 12 → IsInverse m (right_half v)
unfolding times_column right_half Inverse
inverted m v h = record { size = length_tab 144 word; canonical = low; inverse = inv }
  where
    word : ℕ → ℕ
    word t = at v (t / 12) (12 + t % 12)

    low : AllCanonical (tab 144 word)
    low t g =
        subst (λ y. y < P) (sym (cell_tab 144 word t t_lt))
        (h.reduced.working.canonical (t / 12) (12 + t % 12) (omega (arith, t_lt)) (omega arith))
      where
        t_lt : t < 144
        t_lt = omega (arith, length_tab 144 word)

    right : (i k : ℕ) → i < 12 → k < 12 → entry (tab 144 word) i k ≡ at v i (12 + k)
    right i k hi hk = cell_tab 144 word (12 * i + k) (omega arith) ∙ ap₂ (λ x y. at v x (12 + y)) p q
      where
        p : (12 * i + k) / 12 ≡ i
        p = omega arith

        q : (12 * i + k) % 12 ≡ k
        q = omega arith

    inv : Inverse 12 (entry m) (entry (tab 144 word))
    inv i k hi hk =
        product_ext 12 (entry m) (entry m) (entry (tab 144 word)) (λ i k. at v i (12 + k)) i k (λ j l. refl)
        (λ j l. right j k l hk)
        ∙ finished 12 (entry m) (at v) (under m v h.keeps) h.reduced.ident i k hi hk

-- the list of a matrix's cells, row by row
pub listed : (ℕ → ℕ → ℕ) → List ℕ
listed a = tab 144 (λ t. a (t / 12) (t % 12))

pub listed_inverse : (m : List ℕ) → (h : Invertible 12 (entry m)) → IsInverse m (listed h.matrix)
unfolding listed Inverse
listed_inverse m h =
    record {
      size = length_tab 144 word;
      canonical = low;
      inverse = λ i k hi hk. product_ext 12 (entry m) (entry m) (entry (tab 144 word)) h.matrix i k
          (λ j l. refl) (λ j l. at_word j k l hk)
          ∙ h.right i k hi hk;
    }
  where
    word : ℕ → ℕ
    word t = h.matrix (t / 12) (t % 12)

    low : AllCanonical (tab 144 word)
    low t g =
        subst (λ y. y < P) (sym (cell_tab 144 word t t_lt))
        (h.canonical (t / 12) (t % 12) (omega (arith, t_lt)) (omega arith))
      where
        t_lt : t < 144
        t_lt = omega (arith, length_tab 144 word)

    at_word : (i k : ℕ) → i < 12 → k < 12 → entry (tab 144 word) i k ≡ h.matrix i k
    at_word i k hi hk = cell_tab 144 word (12 * i + k) (omega arith) ∙ ap₂ h.matrix p q
      where
        p : (12 * i + k) / 12 ≡ i
        p = omega arith

        q : (12 * i + k) % 12 ≡ k
        q = omega arith

-- the answer is determined
pub inverse_only : (m a b : List ℕ) → IsInverse m a → IsInverse m b → a ≡ b
inverse_only m a b ha hb = ext_get_or 0 a b (ha.size ∙ sym hb.size) same
  where
    low : (n : List ℕ) → IsInverse m n → (i k : ℕ) → i < 12 → k < 12 → Canonical (entry n i k)
    low n h i k hi hk = h.canonical (12 * i + k) (omega (arith, h.size))

    same : (t : ℕ) → t < length a → cell a t ≡ cell b t
    same t l =
        sym (ap (cell a) e)
        ∙ inverse_unique 12 (entry m) (entry a) (entry b) ha.inverse hb.inverse (low a ha) (low b hb) (t / 12)
        (t % 12) (omega (arith, ha.size)) (omega arith)
        ∙ ap (cell b) e
      where
        e : 12 * (t / 12) + t % 12 ≡ t
        e = omega arith

pub inverts_unique : (m : List ℕ) (a b : Option (List ℕ)) → Inverts m a → Inverts m b → a ≡ b
inverts_unique m (Some a) (Some b) h g = ap Some (inverse_only m a b h g)
inverts_unique m (Some a) None h g = absurd (not_both 12 (entry m) (entry a) h.inverse g)
inverts_unique m None (Some b) h g = absurd (not_both 12 (entry m) (entry b) g.inverse h)
inverts_unique m None None h g = refl
