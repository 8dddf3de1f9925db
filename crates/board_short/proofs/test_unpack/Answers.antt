-- `board_short::test_unpack`: each return is the case of the definition that the tests before it left.
-- Assumes nothing.
use borrow.Author.Tests.{eq-eqb, ne_eqb, le-leb, lt-leb}
use Rattle.std.proofs.lemmas.Result.{err_from_is_err_and}
use Rattle.board_short.specs.ShortBoard.{unpack_short_test}
use Rattle.board_short.proofs.Answers.{word_tested, word_counts}
use Rattle.board_short.proofs.test_unpack.Goals as goal

pub returns-then-file-lt4 : goal.returns-then-file-lt4
unfolding unpack_short_test
returns-then-file-lt4 c = rw (lt-leb _ _ c.if-file-lt4.true)

pub returns-in_err-test_count : goal.returns-in_err-test_count
unfolding unpack_short_test
returns-in_err-test_count c =
    let p = err_from_is_err_and c.from_residual.result c.from_residual.ensures.1 in
    rw (
      p.1,
      p.2,
      le-leb _ _ c.if-file-lt4.false,
      word_tested c.args.file.now c.read-word.ensures c.test_count.ensures c.in_err-test_count.was,
    )

pub returns-then-size-k : goal.returns-then-size-k
unfolding unpack_short_test
returns-then-size-k c =
    rw (
      le-leb _ _ c.if-file-lt4.false,
      word_tested c.args.file.now c.read-word.ensures c.test_count.ensures c.in_ok-test_count.was,
      word_counts c.args.file.now c.read-word.ensures c.count_in-k.ensures,
      ne_eqb _ _ c.if-size-k.true,
    )

pub returns : goal.returns
unfolding unpack_short_test
returns c =
    rw (
      le-leb _ _ c.if-file-lt4.false,
      word_tested c.args.file.now c.read-word.ensures c.test_count.ensures c.in_ok-test_count.was,
      word_counts c.args.file.now c.read-word.ensures c.count_in-k.ensures,
      eq-eqb _ _ c.if-size-k.false,
    ) c.test_all.ensures
