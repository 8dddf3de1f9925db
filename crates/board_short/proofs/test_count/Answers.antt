-- `board_short::test_count`: the kind, the mark with the spare bits, then k.
-- Assumes nothing.
use mathlib.Core.Path.{◌≡◌, refl, sym, ap, ◌∙◌}
use mathlib.Core.Bool.{true, false}
use Prim.Native.Nat.{◌/◌, ◌^◌}
use borrow.Author.Tests.{eq-eqb}
use Rattle.numbers.specs.Numbers.{permitted, most_batches}
use Rattle.board_words.specs.declared.Kind.TheVariants.{Count}
use Rattle.board_words.proofs.Words.{kind_other}
use Rattle.board_short.specs.ShortBoard.{short_count_test, short_count_in}
use Rattle.board_short.proofs.Answers.{marked, unmarked}
use Rattle.board_short.proofs.test_count.Goals as goal

pub returns-then-ne : goal.returns-then-ne
unfolding short_count_test
returns-then-ne c = rw (kind_other Count _ c.kind.ensures refl c.ne.ensures c.if-ne.true)

pub returns-then-payload : goal.returns-then-payload
unfolding short_count_test
returns-then-payload c =
    let bits = ap (λ p. p / 2 ^ 20) c.payload.ensures in
    rw (kind_other Count _ c.kind.ensures refl c.ne.ensures c.if-ne.false)
    (unmarked _ _ _ (λ e. c.if-payload.true (bits ∙ e)) refl)

pub returns-then-not-is_permitted : goal.returns-then-not-is_permitted
unfolding short_count_test
returns-then-not-is_permitted c =
    let m = marked _ (ap (λ p. p / 2 ^ 20) (sym c.payload.ensures) ∙ c.if-payload.false) in
    let no : permitted most_batches (short_count_in c.args.word.0) ≡ false = cc in
    rw (kind_other Count _ c.kind.ensures refl c.ne.ensures c.if-ne.false, eq-eqb _ _ m.0, eq-eqb _ _ m.1, no)

pub returns : goal.returns
unfolding short_count_test
returns c =
    let m = marked _ (ap (λ p. p / 2 ^ 20) (sym c.payload.ensures) ∙ c.if-payload.false) in
    let yes : permitted most_batches (short_count_in c.args.word.0) ≡ true = cc in
    rw (kind_other Count _ c.kind.ensures refl c.ne.ensures c.if-ne.false, eq-eqb _ _ m.0, eq-eqb _ _ m.1, yes)
