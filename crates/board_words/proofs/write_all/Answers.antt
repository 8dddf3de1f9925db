-- `board_words::write_all`: an element that is written after those passed, and all of them.
-- Assumes nothing.
use mathlib.Core.Path.{◌≡◌, refl, ◌∙◌}
use native.Mathlib.Omega.{arith}
use lib.ListN.{length}
use lib.Seq.{take-length}
use Rattle.lists.specs.Lists.{each}
use Rattle.board_words.proofs.Laws.{write_next}
use Rattle.board_words.proofs.write_all.Goals as goal

pub loop-i-init : goal.loop-i-init
unfolding each
loop-i-init c = refl

pub loop-i-preserved : goal.loop-i-preserved
loop-i-preserved c =
    let loop = c.loop-i in
    write_next _ _ _ _ loop.i _ c.loop-i-test.true loop.invariant c.write.ensures

pub returns : goal.returns
returns c =
    let loop = c.loop-i in
    let elements = c.args.elements.now in
    let all : loop.i ≡ length elements = omega arith in
    loop.invariant ∙ rw (all, take-length elements)
