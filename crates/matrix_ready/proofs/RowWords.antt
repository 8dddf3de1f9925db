-- The words of all rows of a matrix times a column: before the first step, after one more, and after the last.
-- Assumes nothing.
use mathlib.Core.Path.{◌≡◌, refl, ap, ap₂, ◌∙◌}
use mathlib.Core.List.{List}
use Prim.Native.Nat.{ℕ, suc, ◌+◌, ◌*◌, ◌<◌}
use lib.ListN.{replicate}
use Rattle.lists.specs.Lists.{cell, tab}
use Rattle.lists.proofs.Tab.{cell_tab, tab_ext}
use Rattle.field.specs.Gathering.{gathered}
use Rattle.field_sums.specs.Sums.{weighted_factor, sum_word}
use Rattle.field_sums.proofs.Words.{whole_sum}
use Rattle.matrix.specs.Matrix.{times_column}

-- after j steps, for a matrix and a column by their cells
abbrev pub row_words : (ℕ → ℕ → ℕ) → (ℕ → ℕ) → ℕ → List ℕ
row_words a y j = tab 12 (λ i. sum_word (a i) y j)

module _ (a : ℕ → ℕ → ℕ) (y : ℕ → ℕ) where
  pub none_gathered : replicate 12 0 ≡ row_words a y 0
  unfolding tab sum_word
  none_gathered = refl

  module _ (j : ℕ) (words : List ℕ) (e : words ≡ row_words a y j) where
    cell_words : (i : ℕ) → i < 12 → cell words i ≡ sum_word (a i) y j
    cell_words i h = ap (λ s. cell s i) e ∙ cell_tab 12 (λ l. sum_word (a l) y j) i h

    -- a step, in which row i takes in two terms, whose factors with their weights are u i and v i
    pub next_gathered : (u v : ℕ → ℕ) → ((i : ℕ) → i < 12 → u i ≡ weighted_factor (a i) (2 * j))
        → ((i : ℕ) → i < 12 → v i ≡ weighted_factor (a i) (2 * j + 1))
        → tab 12 (λ i. gathered (gathered (cell words i) (u i) (y (2 * j))) (v i) (y (2 * j + 1)))
        ≡ row_words a y (suc j)
    unfolding sum_word
    next_gathered u v hu hv =
        tab_ext 12 (λ i. gathered (gathered (cell words i) (u i) (y (2 * j))) (v i) (y (2 * j + 1)))
        (λ i. sum_word (a i) y (suc j))
        (λ i l. ap (λ word. gathered (gathered word (u i) (y (2 * j))) (v i) (y (2 * j + 1))) (cell_words i l)
        ∙ ap₂ (λ b c. gathered (gathered (sum_word (a i) y j) b (y (2 * j))) c (y (2 * j + 1))) (hu i l) (hv i l))

  pub all_gathered : row_words a y 6 ≡ tab 12 (times_column 12 a y)
  unfolding times_column
  all_gathered = tab_ext 12 (λ i. sum_word (a i) y 6) (times_column 12 a y) (λ i h. whole_sum (a i) y)
