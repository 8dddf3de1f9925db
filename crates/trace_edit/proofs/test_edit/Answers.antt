-- `trace_edit::test_edit`: the walk comes after the test of the trace's words.
-- Assumes nothing.
use Rattle.check_trace.proofs.Answers.{canonical_words_lem}
use Rattle.trace_edit.proofs.test_edit.Goals as goal

pub walk_tests-requires : goal.walk_tests-requires
walk_tests-requires c =
    let p = c.requires in
    (canonical_words_lem c.args.trace.now c.test_words.ensures c.in_ok-test_words.was, p.0, p.1, p.2)
