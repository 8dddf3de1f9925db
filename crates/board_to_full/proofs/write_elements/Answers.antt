-- `board_to_full::write_elements`: an element that is written after those passed, and all of them.
-- Assumes nothing.
use mathlib.Core.Path.{◌≡◌, refl, sym, ap, ◌∙◌}
use Prim.Native.Nat.{◌+◌, ◌*◌, ◌<◌}
use native.Mathlib.Omega.{arith}
use lib.ListN.{length}
use lib.Seq.{sets, take-length}
use Rattle.lists.specs.Lists.{each}
use Rattle.board_words.specs.Words.{bytes_of}
use Rattle.board_words.specs.Elements.{element_words}
use Rattle.board_words.proofs.Laws.{write_next}
use Rattle.board_short_read.specs.Reading.{short_at, next_word, first_word, shorts_at}
use Rattle.board_short_read.proofs.Tests.{first_next}
use Rattle.board_short_read.proofs.Round.{length_shorts, cell_shorts}
use Rattle.board_to_full.proofs.write_elements.Goals as goal

pub loop-i-init : goal.loop-i-init
unfolding each first_word
loop-i-init c = (refl, refl)

pub read-element-requires : goal.read-element-requires
read-element-requires c = rw c.loop-i.invariant.0 (c.requires.0 c.loop-i.i c.loop-i-test.true)

pub loop-i-preserved : goal.loop-i-preserved
loop-i-preserved c =
    let loop = c.loop-i in
    let file = c.args.file.now in
    let list = shorts_at file 1 c.args.count in
    let within : loop.i < length list = omega (arith, length_shorts file 1 c.args.count) in
    -- the one that is read is the next of them
    let read =
    c.read-element.ensures.0
    ∙ ap (short_at file) loop.invariant.0
    ∙ sym (cell_shorts file 1 c.args.count loop.i c.loop-i-test.true) in
    let stored =
    c.write.ensures
    ∙ ap (λ x. sets loop.destination (4 * (1 + 3 * loop.i)) (bytes_of (element_words x))) read in (
      c.read-element.ensures.1 ∙ ap (next_word file) loop.invariant.0 ∙ sym (first_next file 1 loop.i),
      write_next _ _ _ list loop.i 1 within loop.invariant.1 stored,
    )

pub returns : goal.returns
returns c =
    let list = shorts_at c.args.file.now 1 c.args.count in
    let loop = c.loop-i in
    let all : loop.i ≡ length list = omega (arith, length_shorts c.args.file.now 1 c.args.count) in
    loop.invariant.1 ∙ rw (all, take-length list)
