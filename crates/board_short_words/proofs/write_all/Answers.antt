-- `board_short_words::write_all`: an element that is written after those passed, and all of them.
-- Assumes nothing.
use mathlib.Core.Path.{◌≡◌, refl, ◌∙◌}
use native.Mathlib.Omega.{arith}
use lib.ListN.{length}
use lib.Seq.{take-length}
use Rattle.lists.specs.Lists.{each}
use Rattle.board_short_words.proofs.Words.{length_next, next_fits, write_next}
use Rattle.board_short_words.proofs.write_all.Goals as goal

pub loop-element-init : goal.loop-element-init
unfolding each
loop-element-init c = (omega arith, refl)

pub write-at-requires : goal.write-at-requires
write-at-requires c =
    omega (arith, next_fits c.args.elements.now c.loop-element.element-index (omega arith))

pub loop-element-preserved : goal.loop-element-preserved
loop-element-preserved c =
    let loop = c.loop-element in
    let xs = c.args.elements.now in
    let written = c.write-at.ensures in (
      omega (arith, written.value, length_next xs loop.element-index (omega arith)),
      write_next _ _ _ xs loop.element-index _ _ (omega arith) loop.invariant.0 loop.invariant.1
          written.destination_after,
    )

pub returns : goal.returns
returns c =
    let loop = c.loop-element in
    let elements = c.args.elements.now in
    let all : loop.element-index ≡ length elements = omega arith in
    record {
      value = loop.invariant.0 ∙ rw (all, take-length elements);
      destination_after = loop.invariant.1 ∙ rw (all, take-length elements);
    }
