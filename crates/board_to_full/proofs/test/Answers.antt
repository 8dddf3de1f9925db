-- `board_to_full::test`: each return is the case of the definition that the tests before it left.
-- Assumes nothing.
use mathlib.Core.Path.{sym, ◌∙◌}
use borrow.Author.Tests.{eq-eqb, ne_eqb, le-leb, lt-leb}
use Rattle.std.proofs.lemmas.Result.{err_from_is_err_and}
use Rattle.board_short.proofs.Answers.{word_tested, word_counts}
use Rattle.board_edition.proofs.Answers as edition
use Rattle.board_to_full.specs.ToFull.{to_full_test}
use Rattle.board_to_full.proofs.test.Goals as goal

pub returns-in_err-test : goal.returns-in_err-test
unfolding to_full_test
returns-in_err-test c =
    let p = err_from_is_err_and c.from_residual.result c.from_residual.ensures.1 in
    rw (p.1, p.2, edition.tested c.args.file.now c.test.ensures c.mark.ensures c.in_err-test.was)

pub read-word-requires : goal.read-word-requires
read-word-requires c =
    (edition.accepted _ _ (edition.tested c.args.file.now c.test.ensures c.mark.ensures c.in_ok-test.was)).four

pub returns-in_err-test_count : goal.returns-in_err-test_count
unfolding to_full_test
returns-in_err-test_count c =
    let p = err_from_is_err_and c.from_residual-in_err-test_count.result
    c.from_residual-in_err-test_count.ensures.1 in
    rw (
      p.1,
      p.2,
      edition.tested c.args.file.now c.test.ensures c.mark.ensures c.in_ok-test.was,
      word_tested c.args.file.now c.read-word.ensures c.test_count.ensures c.in_err-test_count.was,
    )

pub returns-then-k-gt-MOST_FILE_BATCHES : goal.returns-then-k-gt-MOST_FILE_BATCHES
unfolding to_full_test
returns-then-k-gt-MOST_FILE_BATCHES c =
    rw (
      edition.tested c.args.file.now c.test.ensures c.mark.ensures c.in_ok-test.was,
      word_tested c.args.file.now c.read-word.ensures c.test_count.ensures c.in_ok-test_count.was,
      word_counts c.args.file.now c.read-word.ensures c.count_in-k.ensures,
      lt-leb _ _ c.if-k-gt-MOST_FILE_BATCHES.true,
    )

pub test_all-requires : goal.test_all-requires
test_all-requires c =
    (edition.accepted _ _ (edition.tested c.args.file.now c.test.ensures c.mark.ensures c.in_ok-test.was)).four

pub returns-in_err-test_all : goal.returns-in_err-test_all
unfolding to_full_test
returns-in_err-test_all c =
    let p = err_from_is_err_and c.from_residual-in_err-test_all.result
    c.from_residual-in_err-test_all.ensures.1 in
    rw (
      p.1,
      p.2,
      edition.tested c.args.file.now c.test.ensures c.mark.ensures c.in_ok-test.was,
      word_tested c.args.file.now c.read-word.ensures c.test_count.ensures c.in_ok-test_count.was,
      word_counts c.args.file.now c.read-word.ensures c.count_in-k.ensures,
      le-leb _ _ c.if-k-gt-MOST_FILE_BATCHES.false,
      sym c.test_all.ensures ∙ c.in_err-test_all.was,
    )

pub returns-then-size-k : goal.returns-then-size-k
unfolding to_full_test
returns-then-size-k c =
    rw (
      edition.tested c.args.file.now c.test.ensures c.mark.ensures c.in_ok-test.was,
      word_tested c.args.file.now c.read-word.ensures c.test_count.ensures c.in_ok-test_count.was,
      word_counts c.args.file.now c.read-word.ensures c.count_in-k.ensures,
      le-leb _ _ c.if-k-gt-MOST_FILE_BATCHES.false,
      sym c.test_all.ensures ∙ c.in_ok-test_all.was,
      ne_eqb _ _ c.if-size-k.true,
    )

pub returns : goal.returns
unfolding to_full_test
returns c =
    rw (
      edition.tested c.args.file.now c.test.ensures c.mark.ensures c.in_ok-test.was,
      word_tested c.args.file.now c.read-word.ensures c.test_count.ensures c.in_ok-test_count.was,
      word_counts c.args.file.now c.read-word.ensures c.count_in-k.ensures,
      le-leb _ _ c.if-k-gt-MOST_FILE_BATCHES.false,
      sym c.test_all.ensures ∙ c.in_ok-test_all.was,
      eq-eqb _ _ c.if-size-k.false,
    )
