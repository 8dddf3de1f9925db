-- `table::first_unlike`: a row of the product tells its cells of M times the stored inverse.
-- Assumes nothing.
use mathlib.Core.Path.{◌≡◌, refl, sym, ap, ◌∙◌, subst}
use Prim.Native.Nat.{ℕ}
use mathlib.Core.List.{List}
use native.Mathlib.Omega.{arith}
use lib.ListN.{length}
use Rattle.lists.specs.Lists.{tab}
use Rattle.field_words.specs.Words.{AllCanonical}
use Rattle.table.specs.Table.{inverse_of}
use Rattle.table.proofs.Parts.{length_inverse, inverse_canonical}
use Rattle.table.proofs.ReadyLaws.{ready_is}
use Rattle.table.proofs.Tested.{by_columns, row_stops, row_passes, passes}
use Rattle.table.proofs.first_unlike.Goals as goal

pub product_columns-product-requires : goal.product_columns-product-requires
product_columns-product-requires c =
    let t = c.args.table.now in
    let n = c.inverse.ensures in (
      ready_is t c.args.ready.now c.requires.2,
      ap length n ∙ length_inverse t c.requires.0,
      subst AllCanonical (sym n) (inverse_canonical t c.requires.0 c.requires.1),
    )

-- the product, by columns
product_is : {p n : List ℕ} (r t : List ℕ) → p ≡ tab 144 (by_columns r n) → n ≡ inverse_of t
    → p ≡ tab 144 (by_columns r (inverse_of t))
product_is r t made e = made ∙ ap (λ n. tab 144 (by_columns r n)) e

pub returns-in-Some : goal.returns-in-Some
returns-in-Some c =
    let made = product_is _ _ c.product_columns-product.ensures c.inverse.ensures in
    let k = c.in-Some.ensures in (
      row_stops _ _ _ c.requires.2 made c.loop-row.row (omega arith) c.loop-row.invariant _ k.0
          (λ e. omega (arith, k.1)),
      omega (arith, k.1),
    )

pub loop-row-preserved : goal.loop-row-preserved
loop-row-preserved c =
    let made = product_is _ _ c.product_columns-product.ensures c.inverse.ensures in
    row_passes _ _ _ c.requires.2 made c.loop-row.row (omega arith) c.loop-row.invariant _ refl c.in_default.ensures

pub returns : goal.returns
returns c = passes _ (λ d h. c.loop-row.invariant d (omega arith))
