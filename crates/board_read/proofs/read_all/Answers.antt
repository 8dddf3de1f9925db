-- `board_read::read_all`: an element that is stored after those passed, and all of them.
-- Assumes nothing.
use mathlib.Core.Path.{◌≡◌, refl, ◌∙◌}
use Prim.Native.Nat.{◌+◌, ◌*◌}
use native.Mathlib.Omega.{arith}
use lib.ListN.{length}
use Rattle.lists.proofs.Tab.{filled_none, filled_more, filled_all}
use Rattle.board_words.specs.Elements.{element_at, elements_at}
use Rattle.board_read.proofs.read_all.Goals as goal

pub loop-i-init : goal.loop-i-init
loop-i-init c = filled_none _ _

pub read-requires : goal.read-requires
read-requires c = (omega arith, c.requires.1 c.loop-i.i (omega arith))

pub loop-i-preserved : goal.loop-i-preserved
loop-i-preserved c =
    let loop = c.loop-i in
    filled_more _ loop.i c.read.result _ loop.destination (omega arith) c.read.ensures
    loop.invariant

pub returns : goal.returns
unfolding elements_at
returns c =
    let loop = c.loop-i in
    let a = c.args in
    let all : loop.i ≡ length a.destination.now = omega arith in
    loop.invariant
    ∙ rw all
    (filled_all (length a.destination.now) (λ n. element_at a.file.now (a.index + 3 * n))
    a.destination.now refl)
