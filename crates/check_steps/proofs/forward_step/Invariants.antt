-- `check_steps::forward_step`: the columns passed are M's rows times the cubes, plus the constant, as M made ready makes
-- up for the divisions.
-- Assumes nothing.
use mathlib.Core.List.{List}
use Prim.Native.Nat.{ℕ}
use Rattle.lists.specs.Lists.{cell}
use Rattle.lists.proofs.Tab.{Fills}
use Rattle.field.specs.Field.{add}
use Rattle.table.specs.Table.{second_step_constant}
use Rattle.check_steps.proofs.forward_step.Given as goal

-- what the loop stores in column j
abbrev pub plus_constant : List ℕ → ℕ → List ℕ → ℕ → ℕ
plus_constant table round mixed j = add (cell mixed j) (cell (second_step_constant table round) j)

abbrev pub invariant-loop-j : goal.invariant-loop-j
invariant-loop-j l = Fills 12 (plus_constant l.ready.table.now l.round l.mixed.words) l.initial.out l.j l.out
