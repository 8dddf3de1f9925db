-- Twelve cells at a time: products and powers of elements, and the elements that words stand for.
-- Assumes nothing.
use Rattle.std.specs.Prelude.{List, ℕ}
use Rattle.lists.specs.Lists.{cell, tab}
use Rattle.field.specs.Field.{mul, power}
use Rattle.field.specs.MontgomeryHelpers.{divided}
use Rattle.numbers.specs.Numbers.{width}

-- the elements that twelve words stand for
unfoldable pub elements : List ℕ → List ℕ
elements v = tab width (λ j. divided (cell v j))

unfoldable pub products : List ℕ → List ℕ → List ℕ
products a b = tab width (λ j. mul (cell a j) (cell b j))

unfoldable pub powers : List ℕ → ℕ → List ℕ
powers x e = tab width (λ j. power (cell x j) e)
