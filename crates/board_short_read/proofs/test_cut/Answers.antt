-- `board_short_read::test_cut`: each return is the case of the definition that the tests before it left.
-- Assumes nothing.
use Prim.Native.Nat.{◌+◌, ◌*◌}
use native.Mathlib.Omega.{arith}
use borrow.Author.Tests.{le-leb, lt-leb}
use lib.ListN.{length}
use Rattle.board_words.specs.declared.Kind.TheVariants.{High, Middle}
use Rattle.board_words.proofs.Words.{kind_other}
use Rattle.board_short_read.specs.Reading.{three_test}
use Rattle.board_short_read.proofs.Tests.{rest_test}
use Rattle.board_short_read.proofs.test_cut.Goals as goal

pub returns-then-ne : goal.returns-then-ne
unfolding three_test
returns-then-ne c =
    rw (
      rest_test _ _ c.requires.2 c.requires.0,
      kind_other High _ c.kind.ensures c.read.ensures c.ne.ensures c.if-ne.true,
    )

pub returns-then-ne-2 : goal.returns-then-ne-2
unfolding three_test
returns-then-ne-2 c =
    let a = c.args in
    rw (
      rest_test _ _ c.requires.2 c.requires.0,
      kind_other High _ c.kind.ensures c.read.ensures c.ne.ensures c.if-ne.false,
      le-leb (4 * (a.index + 1) + 4) (length a.file.now) (omega arith),
      kind_other Middle _ c.kind-then-index-file.ensures c.read-then-index-file.ensures c.ne-then-index-file.ensures
          c.if-ne-2.true,
    )

pub returns-then-index-file : goal.returns-then-index-file
unfolding three_test
returns-then-index-file c =
    let a = c.args in
    rw (
      rest_test _ _ c.requires.2 c.requires.0,
      kind_other High _ c.kind.ensures c.read.ensures c.ne.ensures c.if-ne.false,
      le-leb (4 * (a.index + 1) + 4) (length a.file.now) (omega arith),
      kind_other Middle _ c.kind-then-index-file.ensures c.read-then-index-file.ensures c.ne-then-index-file.ensures
          c.if-ne-2.false,
      lt-leb (4 * (a.index + 2) + 4) (length a.file.now) (omega arith),
    )

pub returns : goal.returns
unfolding three_test
returns c =
    let a = c.args in
    rw (
      rest_test _ _ c.requires.2 c.requires.0,
      kind_other High _ c.kind.ensures c.read.ensures c.ne.ensures c.if-ne.false,
      lt-leb (4 * (a.index + 1) + 4) (length a.file.now) (omega arith),
    )
