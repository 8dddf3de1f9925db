-- Prepare: 1, 8, 2, 3.
-- Assumes nothing.
use mathlib.Core.Path.{◌≡◌, subst}
use mathlib.Core.Bool.{true, false}
use mathlib.Core.List.{List}
use Prim.Native.Nat.{ℕ, ◌<◌}
use native.Mathlib.Omega.{arith}
use borrow.Author.Tests.{eqb-true, eqb-false}
use lib.Dec.{eqb}
use lib.ListN.{length}
use Rattle.field_words.specs.Words.{first_bad}
use Rattle.field_words.proofs.Laws.{within}
use Rattle.refusals.specs.declared.Refusal.{Refusal}
use Rattle.refusals.specs.declared.Refusal.TheVariants.{TableLength, TableWord, NoInverse, DestinationLength}
use Rattle.refusals.proofs.Laws.{AnswerEnds, unless_ends}
use Rattle.table.specs.Table.{raw_words, table_words, raw_test, Prepares, accepts, no_inverse, refuses}
use Rattle.refusals.specs.Answers.{Answer}

pub prepare_ends : (Q : Refusal → Type 0) (raw old : List ℕ) → ((length raw ≡ raw_words → ⊥) → Q TableLength)
    → ((length old ≡ table_words → ⊥) → Q DestinationLength) → ((i : ℕ) → i < raw_words → Q (TableWord i)) → Q NoInverse
    → (new : List ℕ) (a : Answer) → Prepares raw old a new → AnswerEnds Q a
unfolding raw_test
prepare_ends Q raw old q1 q8 q2 q3 new a (accepts n e h) = tt
prepare_ends Q raw old q1 q8 q2 q3 new a (no_inverse e k) = q3
prepare_ends Q raw old q1 q8 q2 q3 new a (refuses r e) = subst (AnswerEnds Q) e raw_ends
  where
    bad : eqb (length raw) raw_words ≡ true → eqb (first_bad raw) raw_words ≡ false → first_bad raw < raw_words
    bad e g = omega (arith, within raw, eqb-true (length raw) raw_words e, eqb-false (first_bad raw) raw_words g)

    raw_ends : AnswerEnds Q (raw_test raw (length old))
    raw_ends =
        unless_ends Q (eqb (length raw) raw_words) TableLength _ (λ e. q1 (eqb-false _ _ e)) λ e.
        unless_ends Q (eqb (length old) table_words) DestinationLength _ (λ f. q8 (eqb-false _ _ f)) λ f.
        unless_ends Q (eqb (first_bad raw) raw_words) (TableWord (first_bad raw)) _
        (λ g. q2 (first_bad raw) (bad e g)) λ g. tt
