-- Twelve products at a time, in Montgomery's form.
-- Assumes nothing.
use Rattle.std.specs.Prelude.{List, ℕ}
use Rattle.lists.specs.Lists.{cell, tab}
use Rattle.field.specs.MontgomeryHelpers.{times_word}
use Rattle.numbers.specs.Numbers.{width}

unfoldable pub word_products : List ℕ → List ℕ → List ℕ
word_products a b = tab width (λ j. times_word (cell a j) (cell b j))
