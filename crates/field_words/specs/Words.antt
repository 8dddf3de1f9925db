-- Words lent to a call (document 01, "What is turned back": a word that is not canonical, by its lowest index).
-- Assumes nothing.
use Rattle.std.specs.Prelude.{Bool, List, ℕ, ◌<◌, leb, eqb, length}
use Rattle.lists.specs.Lists.{cell, first}
use Rattle.field.specs.Field.{P, Canonical}

-- the first n words are canonical
abbrev pub CanonicalTo : ℕ → List ℕ → Type 0
CanonicalTo n s = (i : ℕ) → i < n → Canonical (cell s i)

-- every word of the list is canonical
abbrev pub AllCanonical : List ℕ → Type 0
AllCanonical s = CanonicalTo (length s) s

-- the lowest index of a word that is not canonical, or the length where all are
unfoldable pub first_bad : List ℕ → ℕ
first_bad s = first (length s) (λ i. leb P (cell s i))

-- i is the lowest index of a word that is not canonical
pub record IsFirstBad (s : List ℕ) (i : ℕ) : Type 0 where
  pub within : i < length s
  pub bad : Canonical (cell s i) → ⊥
  pub before : CanonicalTo i s

-- whether all are
abbrev pub canonical_words : List ℕ → Bool
canonical_words s = eqb (first_bad s) (length s)
