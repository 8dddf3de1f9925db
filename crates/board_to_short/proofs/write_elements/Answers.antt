-- `board_to_short::write_elements`: an element that is written after those passed, and all of them.
-- Assumes nothing.
use mathlib.Core.Path.{◌≡◌, refl, sym, ap, ◌∙◌}
use mathlib.Core.List.{List}
use Prim.Native.Nat.{ℕ, ◌+◌, ◌*◌, ◌<◌}
use native.Mathlib.Omega.{arith}
use lib.ListN.{length}
use lib.Seq.{sets, take-length}
use Rattle.lists.specs.Lists.{cell, each}
use Rattle.board_words.specs.Words.{bytes_of}
use Rattle.board_words.specs.Elements.{element_at, elements_at}
use Rattle.board_words.proofs.Round.{length_elements, cell_elements}
use Rattle.board_short_words.specs.Short.{short_words}
use Rattle.board_short_words.proofs.Words.{length_next, next_fits, write_next, all_needed}
use Rattle.board_to_short.proofs.write_elements.Goals as goal

-- the one that is read is the next of them
read_is : (file : List ℕ) (count i read : ℕ) → i < count → read ≡ element_at file (1 + 3 * i)
    → read ≡ cell (elements_at file 1 count) i
read_is file count i read l e = e ∙ sym (cell_elements file 1 count i l)

pub loop-i-init : goal.loop-i-init
unfolding each
loop-i-init c = (omega arith, refl)

pub read-requires : goal.read-requires
read-requires c = (omega arith, c.requires.1 _ (omega arith))

pub write-at-requires : goal.write-at-requires
write-at-requires c =
    let list = elements_at c.args.file.now 1 c.args.count in
    let i = c.loop-i.i in
    let read = read_is c.args.file.now c.args.count i _ (omega arith) c.read.ensures in
    let words = ap (λ x. length (short_words x)) read in
    let l : i < length list = omega (arith, length_elements c.args.file.now 1 c.args.count) in
    omega (arith, words, next_fits list i l, all_needed list)

pub loop-i-preserved : goal.loop-i-preserved
loop-i-preserved c =
    let list = elements_at c.args.file.now 1 c.args.count in
    let loop = c.loop-i in
    let read = read_is c.args.file.now c.args.count loop.i _ c.loop-i-test.true c.read.ensures in
    let l : loop.i < length list = omega (arith, length_elements c.args.file.now 1 c.args.count) in
    let words = ap (λ x. length (short_words x)) read in
    let stored =
    c.write-at.ensures.destination_after
    ∙ ap (λ x. sets loop.destination (4 * loop.at) (bytes_of (short_words x))) read in (
      omega (arith, words, length_next list loop.i l, c.write-at.ensures.value),
      write_next _ _ _ list loop.i 1 _ l loop.invariant.0 loop.invariant.1 stored,
    )

pub returns : goal.returns
returns c =
    let list = elements_at c.args.file.now 1 c.args.count in
    let loop = c.loop-i in
    let all : loop.i ≡ length list = omega (arith, length_elements c.args.file.now 1 c.args.count) in
    loop.invariant.1 ∙ rw (all, take-length list)
