-- A full file: word 0's 13 then 14, and each element's three kinds and its value.
-- Assumes nothing.
use mathlib.Core.List.{List}
use Prim.Native.Nat.{ℕ, zero, suc, ◌+◌, ◌*◌, ◌<◌, ◌≤◌}
use native.Mathlib.Omega.{arith}
use lib.Dec.{eqb, ltb}
use Rattle.field.specs.Field.{P}
use Rattle.numbers.specs.Numbers.{permitted}
use Rattle.refusals.specs.declared.Refusal.{Refusal}
use Rattle.refusals.specs.declared.Refusal.TheVariants.{FileLength, WrongKind, WrongValue}
use Rattle.refusals.proofs.Laws.{AnswerEnds, unless_ends, after_ends}
use Rattle.board_words.specs.Words.{kind_of, word_at}
use Rattle.board_words.specs.Elements.{element_at, element_test, elements_test}
use Rattle.board.specs.Board.{most_file_batches, count_in, spare_in, batches_in, count_test}

-- what is to be shown where a file is refused
pub record FullCauses (Q : Refusal → Type 0) (file : List ℕ) : Type 0 where
  pub by_length : Q FileLength
  pub by_kind : (j : ℕ) → j < 36 * batches_in file + 25 → Q (WrongKind j)
  pub by_value : (j : ℕ) → j < 36 * batches_in file + 25 → Q (WrongValue j)

module _ (Q : Refusal → Type 0) (file : List ℕ) (causes : FullCauses Q file) where
  element_ends : (j : ℕ) → j + 3 ≤ 36 * batches_in file + 25 → AnswerEnds Q (element_test file j)
  unfolding element_test
  element_ends j h =
      unless_ends Q (eqb (kind_of (word_at file j)) 1) (WrongKind j) _ (λ e. causes.by_kind j (omega arith)) λ e.
      unless_ends Q (eqb (kind_of (word_at file (j + 1))) 2) (WrongKind (j + 1)) _
      (λ f. causes.by_kind (j + 1) (omega arith)) λ f.
      unless_ends Q (eqb (kind_of (word_at file (j + 2))) 3) (WrongKind (j + 2)) _
      (λ g. causes.by_kind (j + 2) (omega arith)) λ g.
      unless_ends Q (ltb (element_at file j) P) (WrongValue j) _ (λ k. causes.by_value j (omega arith)) λ k. tt

  pub elements_end : (j n : ℕ) → j + 3 * n ≤ 36 * batches_in file + 25 → AnswerEnds Q (elements_test file j n)
  unfolding elements_test
  elements_end j zero h = tt
  elements_end j (suc n) h =
      after_ends Q (element_test file j) _ (element_ends j (omega arith)) λ e. elements_end (j + 3) n (omega arith)

  pub count_ends : (w : ℕ) → AnswerEnds Q (count_test w)
  unfolding count_test
  count_ends w =
      unless_ends Q (eqb (kind_of w) 0) (WrongKind 0) _ (λ e. causes.by_kind 0 (omega arith)) λ e.
      unless_ends Q (eqb (spare_in w) 0) (WrongValue 0) _ (λ f. causes.by_value 0 (omega arith)) λ f.
      unless_ends Q (permitted most_file_batches (count_in w)) (WrongValue 0) _
      (λ g. causes.by_value 0 (omega arith)) λ g. tt
