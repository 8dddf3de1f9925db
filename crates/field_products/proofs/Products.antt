-- Twelve products: their cells, which are canonical.
-- Assumes nothing.
use mathlib.Core.Path.{◌≡◌, sym, subst}
use mathlib.Core.List.{List}
use Prim.Native.Nat.{ℕ, ◌<◌}
use lib.ListN.{length}
use Rattle.lists.specs.Lists.{cell}
use Rattle.lists.proofs.Tab.{length_tab, cell_tab}
use Rattle.field.specs.Field.{Canonical}
use Rattle.field.specs.MontgomeryHelpers.{times_word}
use Rattle.field.proofs.Forms.{times_lt}
use Rattle.field_words.specs.Words.{CanonicalTo}
use Rattle.field_products.specs.CellHelpers.{word_products}

pub length_products : (a b : List ℕ) → length (word_products a b) ≡ 12
unfolding word_products
length_products a b = length_tab 12 (λ j. times_word (cell a j) (cell b j))

pub cell_products : (a b : List ℕ) (j : ℕ) → j < 12 → cell (word_products a b) j ≡ times_word (cell a j) (cell b j)
unfolding word_products
cell_products a b j h = cell_tab 12 (λ i. times_word (cell a i) (cell b i)) j h

pub products_canonical : (a b : List ℕ) → CanonicalTo 12 (word_products a b)
products_canonical a b j h = subst Canonical (sym (cell_products a b j h)) (times_lt (cell a j) (cell b j))
