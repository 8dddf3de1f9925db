-- `board_short_words::measure`: each element counts at most once, and all are counted.
-- Assumes nothing.
use mathlib.Core.Path.{sym}
use native.Mathlib.Omega.{arith}
use Rattle.lists.specs.Lists.{cell}
use Rattle.lists.proofs.Sum.{sum_zero}
use Rattle.board_short_words.proofs.Words.{is_three, is_bad, most_one, one_bad, count_next, threes_all, bad_all}
use Rattle.board_short_words.proofs.measure.Goals as goal

pub loop-element-init : goal.loop-element-init
loop-element-init c = (omega arith, omega arith, sym (sum_zero _), sym (sum_zero _))

pub loop-element-preserved : goal.loop-element-preserved
loop-element-preserved c =
    let loop = c.loop-element in
    let i = loop.element-index in
    let xs = c.args.elements.now in
    let three = c.takes_three-threes.ensures in
    let bad = c.not_canonical-bad.ensures in (
      omega (arith, most_one (cell xs i) _ three),
      omega (arith, one_bad (cell xs i) _ bad),
      count_next is_three xs i _ _ loop.invariant.2 three,
      count_next is_bad xs i _ _ loop.invariant.3 bad,
    )

pub returns : goal.returns
returns c =
    let loop = c.loop-element in
    let i = loop.element-index in
    let xs = c.args.elements.now in
    (threes_all xs i _ (omega arith) loop.invariant.2, bad_all xs i _ (omega arith) loop.invariant.3)
