-- `board_to_short::test`: each return is the case of the definition that the tests before it left.
-- Assumes nothing.
use mathlib.Core.Path.{sym}
use native.Mathlib.Omega.{arith}
use borrow.Author.Tests.{eq-eqb, ne_eqb}
use Rattle.std.proofs.lemmas.Result.{err_from_is_err_and}
use Rattle.board.proofs.Answers.{word_tested, word_counts}
use Rattle.board_edition.proofs.Answers as edition
use Rattle.board_to_short.specs.ToShort.{to_short_test}
use Rattle.board_to_short.proofs.Answers.{size_is}
use Rattle.board_to_short.proofs.test.Goals as goal

pub returns-in_err-test : goal.returns-in_err-test
unfolding to_short_test
returns-in_err-test c =
    let p = err_from_is_err_and c.from_residual.result c.from_residual.ensures.1 in
    rw (p.1, p.2, edition.tested c.args.file.now c.test.ensures c.mark.ensures c.in_err-test.was)

pub read-word-requires : goal.read-word-requires
read-word-requires c =
    (edition.accepted _ _ (edition.tested c.args.file.now c.test.ensures c.mark.ensures c.in_ok-test.was)).four

pub returns-in_err-test_count : goal.returns-in_err-test_count
unfolding to_short_test
returns-in_err-test_count c =
    let p = err_from_is_err_and c.from_residual-in_err-test_count.result
    c.from_residual-in_err-test_count.ensures.1 in
    rw (
      p.1,
      p.2,
      edition.tested c.args.file.now c.test.ensures c.mark.ensures c.in_ok-test.was,
      word_tested c.args.file.now c.read-word.ensures c.test_count.ensures c.in_err-test_count.was,
    )

pub returns-then-file-k : goal.returns-then-file-k
unfolding to_short_test
returns-then-file-k c =
    rw (
      edition.tested c.args.file.now c.test.ensures c.mark.ensures c.in_ok-test.was,
      word_tested c.args.file.now c.read-word.ensures c.test_count.ensures c.in_ok-test_count.was,
      word_counts c.args.file.now c.read-word.ensures c.count_in-k.ensures,
      ne_eqb _ _ c.if-file-k.true,
    )

pub test_elements-requires : goal.test_elements-requires
test_elements-requires c = omega (arith, c.if-file-k.false)

pub returns : goal.returns
unfolding to_short_test
returns c =
    let k = word_counts c.args.file.now c.read-word.ensures c.count_in-k.ensures in
    rw (
      edition.tested c.args.file.now c.test.ensures c.mark.ensures c.in_ok-test.was,
      word_tested c.args.file.now c.read-word.ensures c.test_count.ensures c.in_ok-test_count.was,
      sym (size_is c.args.file.now),
      k,
      eq-eqb _ _ c.if-file-k.false,
    ) c.test_elements.ensures
