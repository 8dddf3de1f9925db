-- `board_short_read::test_whole`: the full edition's tests of an element, then whether one word would hold it.
-- Assumes nothing.
use mathlib.Core.Path.{sym, ap, ◌∙◌}
use borrow.Author.Tests.{le-leb, lt-leb, ltb-true, ltb-false}
use Rattle.std.proofs.lemmas.Result.{err_from_is_err_and}
use Rattle.board_words.proofs.Tests as elements
use Rattle.board_short_words.specs.Short.{is_small}
use Rattle.board_short_read.proofs.Tests.{three_test_lem}
use Rattle.board_short_read.proofs.test_whole.Goals as goal

pub returns-in_err-test : goal.returns-in_err-test
returns-in_err-test c =
    let p = err_from_is_err_and c.from_residual.result c.from_residual.ensures.1 in
    rw (p.1, p.2, three_test_lem _ _ c.requires.1 c.requires.0, sym c.test.ensures ∙ c.in_err-test.was)

pub read-requires : goal.read-requires
read-requires c = (c.requires.0, (elements.accepted _ _ (sym c.test.ensures ∙ c.in_ok-test.was)).value)

pub returns-then-is_small : goal.returns-then-is_small
returns-then-is_small c =
    let low = ltb-true _ _ (ap is_small (sym c.read.ensures) ∙ sym c.is_small.ensures ∙ c.if-is_small.true) in
    rw (
      three_test_lem _ _ c.requires.1 c.requires.0,
      sym c.test.ensures ∙ c.in_ok-test.was,
      lt-leb _ _ low,
    )

pub returns : goal.returns
returns c =
    let high = ltb-false _ _ (ap is_small (sym c.read.ensures) ∙ sym c.is_small.ensures ∙ c.if-is_small.false) in
    rw (
      three_test_lem _ _ c.requires.1 c.requires.0,
      sym c.test.ensures ∙ c.in_ok-test.was,
      le-leb _ _ high,
    )
