-- The 52 constraints, and the ordered list of all tests of a trace (document 01, "The 52 constraints", and document 02,
-- U6, for the row of the claim; Rescue STARK documentation 1.0, section 3.3.2). T is a prepared table, t a trace of k
-- batches, row by row; the claim is lent with c, the number of batches that it is about; i is the number of a row in
-- the whole trace, j a column, q the number of a constraint.
-- Assumes nothing.
use Rattle.std.specs.Prelude.{Bool, true, false, ◌&&◌, ◌||◌, not, List, [], ◌∷◌, ◌++◌, ℕ, zero, suc, ◌+◌, ◌-◌, ◌%◌, leb}
use Rattle.std.specs.Prelude.{ltb, eqb, Ok}
use Rattle.lists.specs.Lists.{choose, cell, tab}
use Rattle.field.specs.Field.{add, sub}
use Rattle.numbers.specs.Numbers.{trace_row_count, width, within}
use Rattle.matrix.specs.Matrix.{times}
use Rattle.table.specs.Table.{inverse_of, initial_constant, first_step_constant}
use Rattle.hash.specs.Hash.{cubes, plus, second_step}
use Rattle.trace.specs.Trace.{row}
use Rattle.refusals.specs.declared.Refusal.TheVariants.{Constraint}
use Rattle.refusals.specs.Answers.{Answer, unless}

-- ---- rows, forward and back

-- the round whose middle state row i holds: rows 1 to 10, 11 to 20, 21 to 30 of a batch are rounds 0 to 9
abbrev pub round : ℕ → ℕ
round i = (within i - 1) % 10

-- rows 10 and 20 of a batch, after which a new tap enters
abbrev pub entering : ℕ → Bool
entering i = eqb (within i) 10 || eqb (within i) 20

-- the last row of k batches
abbrev pub last_row : ℕ → ℕ → Bool
last_row k i = eqb (i + 1) (trace_row_count k)

-- the row that is compared with the claim: row 31 of batch c − 1, the last row of c batches
abbrev pub claim_row : ℕ → ℕ → Bool
claim_row c i = last_row c i

-- the first n columns of a state plus those of another, the others as they are
unfoldable pub plus_first : ℕ → List ℕ → List ℕ → List ℕ
plus_first n s u = tab width (λ j. choose (ltb j n) (add (cell s j) (cell u j)) (cell s j))

-- forward of row i: its cells cubed, times M, plus that round's second-step constant; at rows 10 and 20 K_0 is added
-- too, in columns 0 to 3 only
unfoldable pub forward : List ℕ → List ℕ → ℕ → List ℕ
forward T t i =
    choose (entering i) (plus_first 4 (second_step T (round i) (row t i)) (initial_constant T))
    (second_step T (round i) (row t i))

-- a state less another, cell by cell
unfoldable pub minus : List ℕ → List ℕ → List ℕ
minus s u = tab width (λ j. sub (cell s j) (cell u j))

-- a middle state's cells less the first-step constant of round r, times the inverse of M, then cubed
unfoldable pub back_step : List ℕ → ℕ → List ℕ → List ℕ
back_step T r s = cubes (times (inverse_of T) (minus s (first_step_constant T r)))

-- back of row i
unfoldable pub back : List ℕ → List ℕ → ℕ → List ℕ
back T t i = back_step T (round i) (row t i)

-- ---- the constraints. One on two rows belongs to the earlier

abbrev pub between : ℕ → ℕ → ℕ → Bool
between a b n = leb a n && leb n b

-- a family of constraints: the numbers of the first and the last, one number for each column; the rows at which they
-- apply; the two states that they compare there; the column that the first compares
abbrev pub Rows : Type 0
Rows = ℕ → ℕ → ℕ → ℕ → Bool

abbrev pub StateAt : Type 0
StateAt = List ℕ → List ℕ → List ℕ → ℕ → List ℕ

pub record Family : Type 0 where
  pub first : ℕ
  pub last : ℕ
  pub rows : Rows
  pub left : StateAt
  pub right : StateAt
  pub column : ℕ

abbrev pub family : ℕ → ℕ → Rows → StateAt → StateAt → ℕ → Family
family first last rows left right column =
    record { first = first; last = last; rows = rows; left = left; right = right; column = column }

-- the rows, of a trace of k batches with a claim about c of them, by the row i and the column j that is compared: row n
-- of each batch; rows 10 and 20; rows 1 to 29, but at 10 and 20 columns 0 to 3 only; row 31 of every batch but the
-- last, also where it is the row of the claim; the row of the claim
abbrev pub at_row : ℕ → Rows
at_row n k c i j = eqb (within i) n

abbrev pub at_entering : Rows
at_entering k c i j = entering i

abbrev pub at_middle : Rows
at_middle k c i j = between 1 29 (within i) && (not (entering i) || ltb j 4)

abbrev pub at_joint : Rows
at_joint k c i j = eqb (within i) 31 && not (last_row k i)

abbrev pub at_claim : Rows
at_claim k c i j = claim_row c i

-- the states, at row i
abbrev pub zero_state : StateAt
zero_state T t claim i = tab width (λ j. 0)

abbrev pub initial : StateAt
initial T t claim i = initial_constant T

abbrev pub this : StateAt
this T t claim i = row t i

abbrev pub this_plus_initial : StateAt
this_plus_initial T t claim i = plus (row t i) (initial_constant T)

abbrev pub forward_of_this : StateAt
forward_of_this T t claim i = forward T t i

abbrev pub next : StateAt
next T t claim i = row t (i + 1)

abbrev pub back_of_next : StateAt
back_of_next T t claim i = back T t (i + 1)

abbrev pub claimed : StateAt
claimed T t claim i = claim

-- document 01's list: numbers, rows, what is compared, the first column
unfoldable pub families : List Family
families =
    family 1 4 (at_row 0) this zero_state 8
    ∷ family 5 8 at_entering back_of_next initial 8
    ∷ family 9 20 (at_row 0) this_plus_initial back_of_next 0
    ∷ family 21 32 at_middle forward_of_this back_of_next 0
    ∷ family 33 44 (at_row 30) forward_of_this next 0
    ∷ family 45 48 at_joint this next 0
    ∷ family 49 52 at_claim this claimed 0
    ∷ []

-- the column that constraint q of a family compares
abbrev pub column_of : Family → ℕ → ℕ
column_of f q = f.column + (q - f.first)

-- what the family of constraint q answers, and no where q is the number of none
unfoldable pub of_family : ℕ → (Family → Bool) → List Family → Bool
of_family q answer [] = false
of_family q answer (f ∷ fs) = choose (between f.first f.last q) (answer f) (of_family q answer fs)

-- whether constraint q applies at row i of a trace of k batches with a claim about c of them
unfoldable pub applies : ℕ → ℕ → ℕ → ℕ → Bool
applies k c i q = of_family q (λ f. f.rows k c i (column_of f q)) families

-- whether constraint q holds at row i, where it applies
abbrev pub compares : List ℕ → List ℕ → List ℕ → ℕ → ℕ → Family → Bool
compares T t claim i q f =
    eqb (cell (f.left T t claim i) (column_of f q)) (cell (f.right T t claim i) (column_of f q))

unfoldable pub holds : List ℕ → List ℕ → List ℕ → ℕ → ℕ → Bool
holds T t claim i q = of_family q (compares T t claim i q) families

-- ---- the order: rows of the whole trace rising, constraint numbers rising within a row

pub record Test : Type 0 where
  pub at : ℕ
  pub number : ℕ

-- x and then xs where the constraint applies, else xs alone
abbrev pub keep : Bool → Test → List Test → List Test
keep true x xs = x ∷ xs
keep false x xs = xs

-- the tests of row i among the constraints q to q + n - 1
unfoldable pub row_tests : ℕ → ℕ → ℕ → ℕ → ℕ → List Test
row_tests k c i q zero = []
row_tests k c i q (suc n) = keep (applies k c i q) (record { at = i; number = q }) (row_tests k c i (q + 1) n)

-- the tests of the rows i to i + n - 1
unfoldable pub tests_from : ℕ → ℕ → ℕ → ℕ → List Test
tests_from k c i zero = []
tests_from k c i (suc n) = row_tests k c i 1 52 ++ tests_from k c (i + 1) n

-- all tests of a trace of k batches with a claim about c of them
unfoldable pub tests : ℕ → ℕ → List Test
tests k c = tests_from k c 0 (trace_row_count k)

-- the walk after n tests: it stops at the first test that fails, whose place is counted from 1
unfoldable pub walk : List ℕ → List ℕ → List ℕ → List Test → ℕ → Answer
walk T t claim [] n = (Ok tt)
walk T t claim (x ∷ xs) n =
    unless (holds T t claim x.at x.number) (Constraint (record { 0 = x.at }) x.number (n + 1))
    (walk T t claim xs (n + 1))

-- what the walk through all tests answers
unfoldable pub constraint_test : List ℕ → List ℕ → List ℕ → ℕ → ℕ → Answer
constraint_test T t claim c k = walk T t claim (tests k c) 0
