-- `hash::montgomery_cubes`: the cells passed are filled with the cubes, which two products in Montgomery's form leave
-- divided by 2^128, and the others are as they were.
-- Assumes nothing.
use Rattle.lists.specs.Lists.{cell}
use Rattle.lists.proofs.Tab.{Fills}
use Rattle.hash.specs.HashHelpers.{montgomery_cube}
use Rattle.hash.proofs.montgomery_cubes.Given as goal

abbrev pub invariant-loop-x : goal.invariant-loop-x
invariant-loop-x l =
    Fills 12 (λ i. montgomery_cube (cell l.initial.x-items i)) l.initial.x-items l.x-index l.x-items
