-- Where of all refusals only the one with the number n matters, and shows F: what is left to say of the others, and of
-- an answer that is this one.
-- Assumes nothing.
use mathlib.Core.Path.{◌≡◌, subst}
use mathlib.Core.Bool.{false}
use Prim.Native.Nat.{ℕ}
use borrow.Author.Tests.{eqb-false}
use lib.Dec.{eqb}
use Rattle.std.specs.Prelude.{Err}
use Rattle.refusals.specs.Refusals.{told}
use Rattle.refusals.specs.declared.Refusal.{Refusal}
use Rattle.refusals.specs.declared.Refusal.TheVariants.{TableLength, TableWord, WrongInverse}
use Rattle.refusals.proofs.Laws.{AnswerEnds}
use Rattle.call_answers.proofs.Endings.Table.{TableCauses}
use Rattle.refusals.specs.Answers.{Answer}

module _ (n : ℕ) (F : Type 0) where
  abbrev pub Of : Refusal → Type 0
  Of r = (told r).number ≡ n → F

  pub other : (r : Refusal) → eqb (told r).number n ≡ false → Of r
  other r h e = absurd (eqb-false (told r).number n h e)

  pub table_causes_lem : eqb 1 n ≡ false → eqb 2 n ≡ false → eqb 4 n ≡ false → TableCauses Of
  table_causes_lem one two four = record {
    by_length = other TableLength one;
    by_word = λ i h. other (TableWord i) two;
    by_cell = λ i h. other (WrongInverse i) four;
  }

  pub in_answer : (a : Answer) (r : Refusal) → (told r).number ≡ n → AnswerEnds Of a → a ≡ Err r → F
  in_answer a r e h q = subst (AnswerEnds Of) q h e
