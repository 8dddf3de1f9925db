-- `matrix_inverse::pivot`: what `find` says of a range, of the rows from j on.
-- Assumes nothing.
use mathlib.Core.Path.{◌≡◌}
use Rattle.std.proofs.Common.{rules}
use Rattle.std.proofs.lemmas.Iterator.{first_from_Range}
use Rattle.matrix_inverse.specs.EliminationHelpers.{at}
use Rattle.matrix_inverse.proofs.Steps.{pivot_first}
use Rattle.matrix_inverse.proofs.pivot.Goals as goal

pub returns : goal.returns
returns c =
    let a = c.args in
    pivot_first a.w.now a.j c.find.result
    (first_from_Range _ _ _ c.find.result (λ i. at a.w.now i a.j ≡ 0 → ⊥) (λ i. at a.w.now i a.j ≡ 0)
    c.find.ensures.ran (λ x q k. search rules) (λ x q k. search rules))
