-- The table's refusals: 1, 2, 4.
-- Assumes nothing.
use mathlib.Core.List.{List}
use Prim.Native.Nat.{ℕ, ◌<◌}
use native.Mathlib.Omega.{arith}
use Rattle.refusals.specs.declared.Refusal.{Refusal}
use Rattle.refusals.specs.declared.Refusal.TheVariants.{TableLength, TableWord, WrongInverse}
use Rattle.refusals.proofs.Laws.{AnswerEnds}
use Rattle.table.specs.Table.{table_words, table_test}
use Rattle.table.proofs.Theorems as table
use Rattle.refusals.specs.Answers.{Answer}

-- what is to be shown of each
pub record TableCauses (Q : Refusal → Type 0) : Type 0 where
  pub by_length : Q TableLength
  pub by_word : (i : ℕ) → i < table_words → Q (TableWord i)
  pub by_cell : (c : ℕ) → c < 144 → Q (WrongInverse c)

pub table_ends : (Q : Refusal → Type 0) → TableCauses Q → (T : List ℕ) → AnswerEnds Q (table_test T)
table_ends Q causes T = go (table_test T) (table.test_answers T)
  where
    go : (a : Answer) → table.Answers T a → AnswerEnds Q a
    go a (table.accepted h) = tt
    go a (table.length_refused h) = causes.by_length
    go a (table.word_refused i s h) = causes.by_word i (omega (arith, s, h.within))
    go a (table.cell_refused c s w h) = causes.by_cell c h.within
