-- The span of the constraints that can apply at a row (document 01, "The 52 constraints").
-- Assumes nothing.
use Rattle.std.specs.Prelude.{ℕ, leb, eqb}
use Rattle.lists.specs.Lists.{choose}
use Rattle.numbers.specs.Numbers.{within}
use Rattle.check_constraints.specs.Constraints.{entering}
use Rattle.check_applies.specs.declared.Span.{Span}

-- from the constraint low on, and before end
abbrev pub span : ℕ → ℕ → Span
span low end = record { 0 = low; 1 = end }

-- by the row's number within its batch: 1 to 20 at row 0; 5 to 24 at rows 10 and 20; 21 to 32 at the others of rows 1
-- to 29; 33 to 44 at row 30; 45 to 52 at row 31
abbrev pub span_of : ℕ → Span
span_of i =
    choose (eqb (within i) 0) (span 1 21)
    (choose (entering i) (span 5 25)
    (choose (leb (within i) 29) (span 21 33)
    (choose (eqb (within i) 30) (span 33 45)
    (span 45 53))))
