-- M of a prepared table made ready, and what the table test leaves of it.
-- Assumes nothing.
use Rattle.std.specs.Prelude.{not, List, ℕ, ◌+◌, ◌*◌, eqb, length, Ok}
use Rattle.std.specs.Coded.{le_prop}
use native.Mathlib.Nat.{ℕ_set}
use Rattle.lists.specs.Lists.{choose, cell, first}
use Rattle.field.specs.MontgomeryHelpers.{unit_square}
use Rattle.field_words.specs.Words.{first_bad}
use Rattle.numbers.specs.Numbers.{width}
use Rattle.matrix.specs.Matrix.{Inverse}
use Rattle.matrix_ready.specs.MixingHelpers.{ready}
use Rattle.refusals.specs.declared.Refusal.TheVariants.{TableLength, TableWord}
use Rattle.refusals.specs.Answers.{unless, leaves}
use Rattle.table.specs.Table.{table_words, matrix_of, IsTable}

-- 2^192 mod p: 2^64 for the division by it when M is made ready, and 2^128, which is left
abbrev pub matrix_scale : ℕ
matrix_scale = 2148101911894228676

-- its products are M's times 2^128, so that cells divided by 2^128 give M's own (proofs/ReadyLaws.antt)
unfoldable pub ready_matrix : List ℕ → List ℕ
ready_matrix T = ready (matrix_of T) matrix_scale

-- the first column in which row i of a product, which stands by columns, is unlike the identity's, or 12: both are
-- times 2^128
unfoldable pub unlike_in_row : List ℕ → ℕ → ℕ
unlike_in_row s i = first width (λ k. not (eqb (cell s (width * k + i)) (choose (eqb i k) unit_square 0)))

-- what the table test leaves in the room for it, which held old: M made ready, or after 1 and 2 what was there
unfoldable pub ready_left : List ℕ → List ℕ → List ℕ
ready_left T old =
    leaves
    (unless (eqb (length T) table_words) TableLength
    (unless (eqb (first_bad T) table_words) (TableWord (first_bad T))
    (Ok tt)))
    (ready_matrix T) old

-- an accepted table has one proof of it, as a ghost field asks
pub is_table_prop : (T : List ℕ) → IsProp (IsTable T)
unfolding Inverse
is_table_prop T = hlevel (le_prop, ℕ_set)
