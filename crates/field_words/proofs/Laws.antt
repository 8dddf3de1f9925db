-- The first word that is not canonical: the scan for it, and that there is none exactly where all are canonical.
-- Canonical lists joined are canonical.
-- Assumes nothing.
use mathlib.Core.Path.{◌≡◌, sym, subst, ◌∙◌}
use mathlib.Core.Bool.{true, false}
use mathlib.Core.List.{List, [], ◌∷◌, ◌++◌}
use Prim.Native.Nat.{ℕ, zero, suc, ◌≤◌, ◌<◌}
use native.Mathlib.Omega.{arith}
use borrow.Author.Tests.{le-leb, lt-leb, leb-false, leb-true, eq-eqb, ne_eqb, eqb-true, eqb-false}
use lib.Dec.{leb}
use lib.ListN.{length, replicate, get_or-replicate}
use Rattle.lists.specs.Lists.{cell}
use Rattle.lists.proofs.First.{is_first, first_none, found_at}
use Rattle.field.specs.Field.{P, Canonical}
use Rattle.field_words.specs.Words.{CanonicalTo, AllCanonical, first_bad, IsFirstBad, canonical_words}

pub within : (s : List ℕ) → first_bad s ≤ length s
unfolding first_bad
within s = (is_first (length s) (λ i. leb P (cell s i))).within

-- the word at the index that is found is not canonical
pub bad_at : (s : List ℕ) → first_bad s < length s → P ≤ cell s (first_bad s)
unfolding first_bad
bad_at s h = leb-true P _ ((is_first (length s) (λ i. leb P (cell s i))).found h)

pub good_before : (s : List ℕ) (i : ℕ) → i < first_bad s → Canonical (cell s i)
unfolding first_bad
good_before s i h = leb-false P _ ((is_first (length s) (λ j. leb P (cell s j))).before i h)

-- a scan that stops at i, and one that comes to the end
pub stops : (s : List ℕ) (i : ℕ) → i < length s → ((j : ℕ) → j < i → Canonical (cell s j)) → P ≤ cell s i
    → i ≡ first_bad s
unfolding first_bad
stops s i h b p =
    found_at (length s) (λ j. leb P (cell s j)) i h (λ j l. lt-leb P (cell s j) (b j l)) (le-leb P (cell s i) p)

-- none is found exactly where every word is canonical
pub all_good : (s : List ℕ) → AllCanonical s → first_bad s ≡ length s
unfolding first_bad
all_good s h = sym (first_none (length s) (λ j. leb P (cell s j)) (λ j l. lt-leb P (cell s j) (h j l)))

pub good_all : (s : List ℕ) → first_bad s ≡ length s → AllCanonical s
good_all s e i h = good_before s i (omega arith)

-- the first word that is not canonical is the one that is found
pub first_bad_lem : (s : List ℕ) → first_bad s < length s → IsFirstBad s (first_bad s)
first_bad_lem s h = record { within = h; bad = λ c. omega (arith, c, bad_at s h); before = good_before s }

pub only_first_bad : (s : List ℕ) (i : ℕ) → IsFirstBad s i → i ≡ first_bad s
only_first_bad s i h = stops s i h.within h.before (omega (arith, h.bad))

-- one canonical word n times
pub same_canonical : (n v : ℕ) → Canonical v → CanonicalTo n (replicate n v)
same_canonical n v c i h = subst Canonical (sym (get_or-replicate n i v 0 h)) c

-- two lists of canonical words, one after the other
pub append_canonical : (s t : List ℕ) → AllCanonical s → AllCanonical t → AllCanonical (s ++ t)
append_canonical [] t a b i h = b i h
append_canonical (x ∷ s) t a b zero h = a 0 (omega arith)
append_canonical (x ∷ s) t a b (suc i) h = append_canonical s t (λ j l. a (suc j) (omega arith)) b i (omega arith)

-- ---- the test, from what a scan found, and what it says
pub scanned_good : {b : ℕ} (s : List ℕ) → b ≡ first_bad s → b ≡ length s → canonical_words s ≡ true
scanned_good s e h = eq-eqb (first_bad s) (length s) (sym e ∙ h)

pub scanned_bad : {b : ℕ} (s : List ℕ) → b ≡ first_bad s → (b ≡ length s → ⊥) → canonical_words s ≡ false
scanned_bad s e h = ne_eqb (first_bad s) (length s) (λ q. h (e ∙ q))

pub test_good : (s : List ℕ) → AllCanonical s → canonical_words s ≡ true
test_good s h = eq-eqb (first_bad s) (length s) (all_good s h)

pub good_test : (s : List ℕ) → canonical_words s ≡ true → AllCanonical s
good_test s e = good_all s (eqb-true (first_bad s) (length s) e)

pub bad_test : (s : List ℕ) → canonical_words s ≡ false → first_bad s < length s
bad_test s e =
    let n = eqb-false (first_bad s) (length s) e in
    omega (arith, within s)
