-- `check_trace::test_trace`: each return is the case of the definition that the tests before it left.
-- Assumes nothing.
use mathlib.Core.Path.{refl}
use Rattle.std.proofs.lemmas.Result.{err_from_is_err_and}
use Rattle.refusals.proofs.Laws.{value_turned_back}
use Rattle.check_trace.proofs.Answers.{canonical_words_lem, walked}
use Rattle.check_trace.proofs.Answers.{claim_refused, claim_passed, words_refused, words_passed}
use Rattle.check_trace.proofs.test_trace.Goals as goal

pub returns-in_err-test_claim : goal.returns-in_err-test_claim
returns-in_err-test_claim c =
    let p = err_from_is_err_and c.from_residual.result c.from_residual.ensures.1 in
    rw (p.1, p.2)
    (value_turned_back (claim_refused _ _ _ _ _ c.test_claim.ensures c.in_err-test_claim.was refl) _ refl)

pub returns-in_err-test_words : goal.returns-in_err-test_words
returns-in_err-test_words c =
    let p = err_from_is_err_and c.from_residual-in_err-test_words.result
    c.from_residual-in_err-test_words.ensures.1 in
    let words = words_refused _ _ _ _ _ c.test_words.ensures c.in_err-test_words.was refl in
    rw (p.1, p.2)
    (value_turned_back (claim_passed _ _ _ _ _ c.test_claim.ensures c.in_ok-test_claim.was words) _ refl)

pub walk_tests-requires : goal.walk_tests-requires
walk_tests-requires c =
    let p = c.requires in
    (canonical_words_lem c.args.trace.now c.test_words.ensures c.in_ok-test_words.was, p.0, p.1, p.2)

pub returns : goal.returns
returns c =
    walked _ _ c.walk_tests.ensures
    (claim_passed _ _ _ _ _ c.test_claim.ensures c.in_ok-test_claim.was
    (words_passed _ _ _ _ _ c.test_words.ensures c.in_ok-test_words.was refl))
