-- `board::test_count`: the kind, the spare bits, then k.
-- Assumes nothing.
use mathlib.Core.Path.{◌≡◌, refl}
use mathlib.Core.Bool.{true, false}
use native.Mathlib.Omega.{arith}
use borrow.Author.Tests.{eq-eqb, ne_eqb}
use Rattle.numbers.specs.Numbers.{permitted}
use Rattle.board_words.specs.declared.Kind.TheVariants.{Count}
use Rattle.board_words.proofs.Words.{kind_other}
use Rattle.board.specs.Board.{most_file_batches, count_in, spare_in, count_test}
use Rattle.board.proofs.test_count.Goals as goal

pub returns-then-ne : goal.returns-then-ne
unfolding count_test
returns-then-ne c = rw (kind_other Count _ c.kind.ensures refl c.ne.ensures c.if-ne.true)

pub returns-then-payload-ne0 : goal.returns-then-payload-ne0
unfolding count_test
returns-then-payload-ne0 c =
    let spare : spare_in c.args.word.0 ≡ 0 → ⊥ = omega arith in
    rw (kind_other Count _ c.kind.ensures refl c.ne.ensures c.if-ne.false, ne_eqb _ _ spare)

pub returns-then-not-is_permitted : goal.returns-then-not-is_permitted
unfolding count_test
returns-then-not-is_permitted c =
    let spare : spare_in c.args.word.0 ≡ 0 = omega arith in
    let no : permitted most_file_batches (count_in c.args.word.0) ≡ false = cc in
    rw (kind_other Count _ c.kind.ensures refl c.ne.ensures c.if-ne.false, eq-eqb _ _ spare, no)

pub returns : goal.returns
unfolding count_test
returns c =
    let spare : spare_in c.args.word.0 ≡ 0 = omega arith in
    let yes : permitted most_file_batches (count_in c.args.word.0) ≡ true = cc in
    rw (kind_other Count _ c.kind.ensures refl c.ne.ensures c.if-ne.false, eq-eqb _ _ spare, yes)
