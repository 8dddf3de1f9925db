-- What a converter tests first: 12 (below 4), word 0's 13, 19.
-- Assumes nothing.
use mathlib.Core.List.{List}
use Prim.Native.Nat.{ℕ}
use lib.Dec.{eqb, leb}
use lib.ListN.{length}
use Rattle.refusals.specs.declared.Refusal.{Refusal}
use Rattle.refusals.specs.declared.Refusal.TheVariants.{FileLength, WrongKind, SameEdition}
use Rattle.refusals.proofs.Laws.{AnswerEnds, unless_ends}
use Rattle.board_words.specs.Words.{kind_of, word_at}
use Rattle.board_short.specs.ShortBoard.{mark_in}
use Rattle.board_edition.specs.Edition.{edition_test}

pub edition_ends : (Q : Refusal → Type 0) (file : List ℕ) (mark : ℕ) → Q FileLength → Q (WrongKind 0) → Q SameEdition
    → AnswerEnds Q (edition_test file mark)
unfolding edition_test
edition_ends Q file mark q12 q13 q19 =
    unless_ends Q (leb 4 (length file)) FileLength _ (λ e. q12) λ e.
    unless_ends Q (eqb (kind_of (word_at file 0)) 0) (WrongKind 0) _ (λ f. q13) λ f.
    unless_ends Q (eqb (mark_in (word_at file 0)) mark) SameEdition _ (λ g. q19) λ g. tt
