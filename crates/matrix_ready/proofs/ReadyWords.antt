-- The words of a matrix made ready: how they are stored, column by column, and what they are.
-- Assumes nothing.
use mathlib.Core.Path.{◌≡◌, refl, sym, ap, ap₂, ◌∙◌, subst}
use mathlib.Core.List.{List, ◌++◌}
use Prim.Native.Nat.{ℕ, suc, ◌+◌, ◌*◌, ◌-◌, ◌/◌, ◌%◌, ◌^◌, ◌<◌}
use native.Mathlib.Nat.{mod-eq_of_lt}
use native.Mathlib.Omega.{arith}
use borrow.Author.Tests.{lt-ltb, le-ltb}
use lib.ListN.{length}
use lib.Seq.{sets}
use Rattle.lists.specs.Lists.{choose, cell, tab}
use Rattle.lists.proofs.Tab.{length_tab, cell_tab, tab_ext, tab_add}
use Rattle.lists.proofs.Stores.{sets_append, sets_all}
use Rattle.field.specs.Field.{P}
use Rattle.field.specs.Gathering.{half_inverse, gathered}
use Rattle.field.specs.MontgomeryHelpers.{times_word}
use Rattle.field.proofs.Forms.{times_lt}
use Rattle.field_sums.specs.Sums.{weighted_factor}
use Rattle.matrix.specs.Matrix.{entry}
use Rattle.matrix_ready.proofs.RowWords.{row_words, next_gathered}
use Rattle.matrix_ready.specs.MixingHelpers.{weighted_entry, column_word, ready, IsReady, ready_entry}
use Rattle.matrix_ready.proofs.Unweighting.{weighted_again, scale_unweighted}

-- ---- runs of stores that go on where the last ended
stored : (z out : List ℕ) (n : ℕ) (f g : ℕ → ℕ) → out ≡ sets z 0 (tab n f) → ((i : ℕ) → i < 12 → g i ≡ f (n + i))
    → sets out n (tab 12 g) ≡ sets z 0 (tab (n + 12) f)
stored z out n f g e h =
    ap₂ (λ l k. sets l k (tab 12 g)) e place
    ∙ sets_append z 0 (tab n f) (tab 12 g)
    ∙ ap (sets z 0) (ap (λ l. tab n f ++ l) (tab_ext 12 g (λ i. f (n + i)) h) ∙ sym (tab_add n 12 f))
  where
    place : n ≡ 0 + length (tab n f)
    place = omega (arith, length_tab n f)

module _ (m : List ℕ) (scale : ℕ) where
  word : ℕ → ℕ
  word t = column_word m scale (t / 24) (t % 24)

  -- the words of column j
  at : (j k : ℕ) → k < 24 → word (24 * j + k) ≡ column_word m scale j k
  unfolding word
  at j k h = ap₂ (column_word m scale) quotient rest
    where
      quotient : (24 * j + k) / 24 ≡ j
      quotient = omega arith

      rest : (24 * j + k) % 24 ≡ k
      rest = omega arith

  lower : (j i : ℕ) → i < 12 → word (24 * j + i) ≡ weighted_entry m scale i j
  lower j i h =
      at j i (omega arith)
      ∙ ap (λ b. choose b (weighted_entry m scale i j) (2 ^ 31 * weighted_entry m scale (i - 12) j % P)) (lt-ltb i 12 h)

  upper : (j i : ℕ) → i < 12 → word (24 * j + 12 + i) ≡ 2 ^ 31 * weighted_entry m scale i j % P
  upper j i h =
      ap word place
      ∙ at j (12 + i) (omega arith)
      ∙ ap
      (λ b. choose b (weighted_entry m scale (12 + i) j) (2 ^ 31 * weighted_entry m scale (12 + i - 12) j % P))
      (le-ltb (12 + i) 12 (omega arith))
      ∙ ap (λ k. 2 ^ 31 * weighted_entry m scale k j % P) back
    where
      place : 24 * j + 12 + i ≡ 24 * j + (12 + i)
      place = omega arith

      back : 12 + i - 12 ≡ i
      back = omega arith

  -- ---- how they are stored
  -- the words of the first j columns, and of the room z what is behind them
  pub stored_to : List ℕ → ℕ → List ℕ
  stored_to z j = sets z 0 (tab (24 * j) word)

  pub none_stored : (z : List ℕ) → z ≡ stored_to z 0
  unfolding stored_to tab
  none_stored z = refl

  pub next_stored : (z : List ℕ) (j : ℕ) (out low high : List ℕ) → out ≡ stored_to z j
      → ((i : ℕ) → i < 12 → cell low i ≡ weighted_entry m scale i j)
      → ((i : ℕ) → i < 12 → cell high i ≡ 2 ^ 31 * weighted_entry m scale i j % P)
      → sets (sets out (24 * j) (tab 12 (cell low))) (24 * j + 12) (tab 12 (cell high)) ≡ stored_to z (j + 1)
  unfolding stored_to
  next_stored z j out low high e hl hh =
      stored z _ (24 * j + 12) word (cell high)
      (stored z out (24 * j) word (cell low) e (λ i h. hl i h ∙ sym (lower j i h)))
      (λ i h. hh i h ∙ sym (upper j i h))
      ∙ ap (λ n. sets z 0 (tab n word)) place
    where
      place : 24 * j + 12 + 12 ≡ 24 * (j + 1)
      place = omega arith

  pub all_stored : (z : List ℕ) → length z ≡ 288 → stored_to z 12 ≡ ready m scale
  unfolding stored_to word ready
  all_stored z size = sets_all z (tab 288 word) (length_tab 288 word ∙ sym size)

  -- ---- what they are
  cell_word : (t : ℕ) → t < 288 → cell (ready m scale) t ≡ word t
  unfolding word ready
  cell_word t h = cell_tab 288 word t h

  cell_low : (i j : ℕ) → i < 12 → j < 12 → cell (ready m scale) (24 * j + i) ≡ weighted_entry m scale i j
  cell_low i j hi hj = cell_word (24 * j + i) (omega arith) ∙ lower j i hi

  pub is_ready : IsReady (ready m scale)
  unfolding ready word
  is_ready = record {
    size = length_tab 288 word;
    canonical = λ i j hi hj. subst (λ v. v < P) (sym (cell_low i j hi hj)) (times_lt _ _);
    raised = λ i j hi hj. cell_word (24 * j + 12 + i) (omega arith)
        ∙ upper j i hi
        ∙ sym (ap (λ v. 2 ^ 31 * v % P) (cell_low i j hi hj));
  }

  -- without the weights, each entry times the scale
  pub ready_entry_lem : (i j : ℕ) → i < 12 → j < 12 → ready_entry (ready m scale) i j ≡ times_word (entry m i j) scale
  unfolding ready_entry
  ready_entry_lem i j hi hj =
      ap (λ v. v * half_inverse ^ (12 - j) % P) (cell_low i j hi hj) ∙ scale_unweighted j (entry m i j) scale

-- ---- a step of every row: columns n and n + 1 of a matrix made ready, which are 2j and 2j + 1
module _ (r s : List ℕ) (ok : IsReady r) where
  factor : (l i : ℕ) → l < 12 → i < 12 → cell r (24 * l + i) ≡ weighted_factor (ready_entry r i) l
  unfolding ready_entry
  factor l i hl hi = sym (weighted_again l (cell r (24 * l + i)) ∙ mod-eq_of_lt (ok.canonical i l hi hl))

  pub two_gathered : (n j : ℕ) → n ≡ 2 * j → j < 6 → (words : List ℕ) → words ≡ row_words (ready_entry r) (cell s) j
      → tab 12 (λ i. gathered (gathered (cell words i) (cell r (24 * n + i)) (cell s n)) (cell r (24 * (n + 1) + i))
      (cell s (n + 1)))
      ≡ row_words (ready_entry r) (cell s) (suc j)
  two_gathered n j p h words e =
      ap (λ l. tab 12 (λ i. gathered (gathered (cell words i) (cell r (24 * l + i)) (cell s l))
      (cell r (24 * (l + 1) + i)) (cell s (l + 1)))) p
      ∙ next_gathered (ready_entry r) (cell s) j words e (λ i. cell r (24 * (2 * j) + i))
      (λ i. cell r (24 * (2 * j + 1) + i)) (λ i l. factor (2 * j) i (omega arith) l)
      (λ i l. factor (2 * j + 1) i (omega arith) l)
