-- The number of each refusal and the values returned with it (document 01, "What is turned back"; document 02).
-- Assumes nothing.
use Rattle.std.specs.Prelude.{ℕ}
use Rattle.refusals.specs.declared.Refusal.{Refusal}
use Rattle.refusals.specs.declared.Refusal.TheVariants.{TableLength, TableWord, NoInverse, WrongInverse}
use Rattle.refusals.specs.declared.Refusal.TheVariants.{TapLength, TapWord, TraceLength, DestinationLength}
use Rattle.refusals.specs.declared.Refusal.TheVariants.{ClaimWord, TraceWord, Constraint, FileLength}
use Rattle.refusals.specs.declared.Refusal.TheVariants.{WrongKind, WrongValue, NoSuchTap, NoPair}
use Rattle.refusals.specs.declared.Refusal.TheVariants.{ClaimBatches, LongElement, SameEdition}
use Rattle.refusals.specs.declared.Place.{Place}
use Rattle.refusals.specs.declared.Place.TheVariants.{Nowhere, Index, Test}
use Rattle.refusals.specs.declared.Particulars.{Particulars}

-- a number alone, and a number with an index
abbrev pub alone : ℕ → Particulars
alone n = record { number = n; place = Nowhere }

abbrev pub indexed : ℕ → ℕ → Particulars
indexed n i = record { number = n; place = Index i }

-- the refusal's number, and the place that is returned with it: none, an index, or row, constraint and the tests up to
-- the failing one
abbrev pub told : Refusal → Particulars
told TableLength = alone 1
told (TableWord i) = indexed 2 i
told NoInverse = alone 3
told (WrongInverse i) = indexed 4 i
told TapLength = alone 5
told (TapWord i) = indexed 6 i
told TraceLength = alone 7
told DestinationLength = alone 8
told (ClaimWord i) = indexed 9 i
told (TraceWord i) = indexed 10 i
told (Constraint row constraint tests) = record { number = 11; place = Test row.0 constraint tests }
told FileLength = alone 12
told (WrongKind i) = indexed 13 i
told (WrongValue i) = indexed 14 i
told NoSuchTap = alone 15
told NoPair = alone 16
told ClaimBatches = alone 17
told (LongElement i) = indexed 18 i
told SameEdition = alone 19

-- the parts of a place, 0 where it has none: its row, its constraint, and its index or tests
abbrev pub row_of : Place → ℕ
row_of Nowhere = 0
row_of (Index i) = 0
row_of (Test row constraint tests) = row

abbrev pub constraint_of : Place → ℕ
constraint_of Nowhere = 0
constraint_of (Index i) = 0
constraint_of (Test row constraint tests) = constraint

abbrev pub value_of : Place → ℕ
value_of Nowhere = 0
value_of (Index i) = i
value_of (Test row constraint tests) = tests
