-- The weights: what a product with a constant in Montgomery's form is a product with.
-- Assumes nothing.
use Rattle.std.proofs.Common.{◌≡◌, ℕ, ◌*◌, ◌%◌, ◌^◌, ◌<◌, List, [], ◌∷◌, replicate, sym, refl, ap, ◌∙◌, mul_comm}
use lib.ListN.{get_or-replicate}
use Rattle.lists.specs.Lists.{cell, tab}
use Rattle.lists.proofs.Tab.{cell_tab, tab_ext}
use Rattle.field.specs.Field.{P, mul}
use Rattle.field.specs.MontgomeryHelpers.{divided, times_word}
use Rattle.field.proofs.Forms.{times_scaled, times_comm}
use Rattle.field.proofs.Modular.{mul_mod_r}
use Rattle.field_products.specs.CellHelpers.{word_products}
use Rattle.field_sums.specs.Sums.{weight}

-- a product with v in the form is one with k
scaled_by : (v k x : ℕ) → divided v ≡ k % P → times_word v x ≡ k * x % P
scaled_by v k x e =
    times_comm v x
    ∙ times_scaled x v
    ∙ ap (mul x) e
    ∙ mul_mod_r P x k
    ∙ ap (λ z. z % P) (mul_comm x k)

pub raised_law : (s : List ℕ) → word_products (replicate 12 54958401520256) s ≡ tab 12 (λ j. 2 ^ 31 * cell s j % P)
unfolding word_products
raised_law s =
    tab_ext 12 (λ j. times_word (cell (replicate 12 54958401520256) j) (cell s j)) (λ j. 2 ^ 31 * cell s j % P)
    (λ j h. ap (λ v. times_word v (cell s j)) (get_or-replicate 12 j 54958401520256 0 h)
    ∙ scaled_by 54958401520256 (2 ^ 31) (cell s j) refl)

-- the constants of `field_sums::weighted`
abbrev pub weights : List ℕ
weights =
    1753051999233102296
    ∷ 1521519387365323426
    ∷ 1632284084371951915
    ∷ 22392494501114462
    ∷ 212805760098606723
    ∷ 2082154247776085883
    ∷ 700181197168064166
    ∷ 435856507012335135
    ∷ 2148101911894228676
    ∷ 506268118997512191
    ∷ 2288261904184696897
    ∷ 109916803040512
    ∷ []

-- each is its weight in the form
all_weights : tab 12 (λ j. divided (cell weights j)) ≡ tab 12 (λ j. weight j % P)
unfolding tab weight
all_weights = refl

are_weights : (j : ℕ) → j < 12 → divided (cell weights j) ≡ weight j % P
are_weights j h =
    sym (cell_tab 12 (λ i. divided (cell weights i)) j h)
    ∙ ap (λ s. cell s j) all_weights
    ∙ cell_tab 12 (λ i. weight i % P) j h

pub weighted_law : (s : List ℕ) → word_products weights s ≡ tab 12 (λ j. weight j * cell s j % P)
unfolding word_products
weighted_law s =
    tab_ext 12 (λ j. times_word (cell weights j) (cell s j)) (λ j. weight j * cell s j % P)
    (λ j h. scaled_by (cell weights j) (weight j) (cell s j) (are_weights j h))
