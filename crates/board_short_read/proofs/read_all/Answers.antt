-- `board_short_read::read_all`: an element that is stored after those passed, and all of them.
-- Assumes nothing.
use mathlib.Core.Path.{◌≡◌, refl, sym, ap, ◌∙◌}
use native.Mathlib.Omega.{arith}
use lib.ListN.{length}
use Rattle.lists.proofs.Tab.{filled_none, filled_more, filled_all}
use Rattle.board_short_read.specs.Reading.{short_at, next_word, first_word, shorts_at}
use Rattle.board_short_read.proofs.Tests.{first_next}
use Rattle.board_short_read.proofs.read_all.Goals as goal

pub loop-slot-init : goal.loop-slot-init
unfolding first_word
loop-slot-init c = (refl, filled_none _ _)

pub read-element-requires : goal.read-element-requires
read-element-requires c =
    let loop = c.loop-slot in
    rw loop.invariant.0 (c.requires loop.slot-index c.loop-slot-test.true)

pub loop-slot-preserved : goal.loop-slot-preserved
loop-slot-preserved c =
    let loop = c.loop-slot in
    let read = c.read-element.ensures in (
      read.1 ∙ ap (next_word _) loop.invariant.0 ∙ sym (first_next _ _ loop.slot-index),
      filled_more _ loop.slot-index c.read-element.result.value _ loop.destination c.loop-slot-test.true
          (read.0 ∙ ap (short_at _) loop.invariant.0) loop.invariant.1,
    )

pub returns-clause-value : goal.returns-clause-value
returns-clause-value c =
    let loop = c.loop-slot in
    let all : loop.slot-index ≡ length c.args.destination.now = omega arith in
    loop.invariant.0 ∙ rw all

pub returns-clause-destination_after : goal.returns-clause-destination_after
unfolding shorts_at
returns-clause-destination_after c =
    let loop = c.loop-slot in
    let a = c.args in
    let all : loop.slot-index ≡ length a.destination.now = omega arith in
    loop.invariant.1
    ∙ rw all
    (filled_all (length a.destination.now) (λ n. short_at a.file.now (first_word a.file.now a.index n))
    a.destination.now refl)
