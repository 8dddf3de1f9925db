-- `matrix_ready::make_ready`: a column more is stored behind the last one.
-- Assumes nothing.
use mathlib.Core.Path.{◌≡◌, ap, ◌∙◌}
use mathlib.Core.List.{List}
use Prim.Native.Nat.{ℕ, ◌+◌, ◌*◌, ◌%◌, ◌^◌, ◌<◌}
use native.Mathlib.Omega.{arith}
use lib.ListN.{length, replicate, get_or-replicate}
use lib.Seq.{sets, length-sets}
use Rattle.lists.specs.Lists.{cell, tab}
use Rattle.lists.proofs.Tab.{cell_tab}
use Rattle.field.specs.Field.{P}
use Rattle.field.specs.MontgomeryHelpers.{times_word}
use Rattle.field_sums.specs.Sums.{weight}
use Rattle.matrix.specs.Matrix.{entry}
use Rattle.matrix_ready.specs.MixingHelpers.{weighted_entry}
use Rattle.matrix_ready.proofs.ReadyWords.{stored_to, none_stored, next_stored, all_stored}
use Rattle.matrix_ready.proofs.make_ready.Goals as goal

pub loop-j-init : goal.loop-j-init
loop-j-init c = (omega arith, c.requires.3, none_stored _ _ _)

-- the factors are the scale with the weights
factor : (factors : List ℕ) (scale : ℕ) → factors ≡ tab 12 (λ l. weight l * cell (replicate 12 scale) l % P)
    → (j : ℕ) → j < 12 → cell factors j ≡ weight j * scale % P
factor factors scale e j h =
    ap (λ l. cell l j) e
    ∙ cell_tab 12 (λ l. weight l * cell (replicate 12 scale) l % P) j h
    ∙ ap (λ v. weight j * v % P) (get_or-replicate 12 j scale 0 h)

pub loop-j-preserved : goal.loop-j-preserved
loop-j-preserved c =
    let m = c.args.m.now in
    let scale = c.args.scale in
    let j = c.loop-j.j in
    let column = c.scaled_column-low.result.words in
    let column_raised = c.raised-high.result.words in
    let low : (i : ℕ) → i < 12 → cell column i ≡ weighted_entry m scale i j =
    λ i h. ap (λ l. cell l i) c.scaled_column-low.ensures
    ∙ cell_tab 12 (λ l. times_word (entry m l j) (cell c.weighted-factors.result.words j)) i h
    ∙ ap (times_word (entry m i j)) (factor _ scale c.weighted-factors.ensures j (omega arith)) in
    let high : (i : ℕ) → i < 12 → cell column_raised i ≡ 2 ^ 31 * weighted_entry m scale i j % P =
    λ i h. ap (λ l. cell l i) c.raised-high.ensures
    ∙ cell_tab 12 (λ l. 2 ^ 31 * cell column l % P) i h
    ∙ ap (λ v. 2 ^ 31 * v % P) (low i h) in
    let e = c.store-in-loop-j.ensures
    ∙ ap (λ l. sets l (24 * j + 12) (tab 12 (cell column_raised))) c.store.ensures in (
      omega arith,
      ap length e ∙ length-sets _ _ (tab 12 _) ∙ length-sets _ _ (tab 12 _) ∙ c.loop-j.invariant.1,
      e ∙ next_stored m scale c.args.out.now j c.loop-j.out column column_raised c.loop-j.invariant.2 low high,
    )

pub returns : goal.returns
returns c =
    let m = c.args.m.now in
    let scale = c.args.scale in
    let e : c.loop-j.j ≡ 12 = omega arith in
    let room = c.args.out.now in
    c.loop-j.invariant.2 ∙ ap (stored_to m scale room) e ∙ all_stored m scale room c.requires.3
