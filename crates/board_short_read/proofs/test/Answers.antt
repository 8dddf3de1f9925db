-- `board_short_read::test`: the first word, and what is left where it is not of kind 3.
-- Assumes nothing.
use mathlib.Core.Path.{sym}
use Prim.Native.Nat.{◌+◌, ◌*◌}
use native.Mathlib.Omega.{arith}
use borrow.Author.Tests.{eqb-true, lt-leb}
use lib.ListN.{length}
use Rattle.board_words.specs.declared.Kind.TheVariants.{Low}
use Rattle.board_words.proofs.Words.{kind_same}
use Rattle.board_short_read.specs.Reading.{short_test}
use Rattle.board_short_read.proofs.Tests.{one_test}
use Rattle.board_short_read.proofs.test.Goals as goal

pub returns-then-words-index : goal.returns-then-words-index
unfolding short_test
returns-then-words-index c =
    let a = c.args in
    rw (lt-leb (4 * a.index + 4) (length a.file.now) (omega arith))

pub returns-then-eq : goal.returns-then-eq
returns-then-eq c =
    let e = eqb-true _ _ (kind_same Low _ c.kind.ensures c.read.ensures c.eq.ensures c.if-eq.true) in
    sym (one_test _ _ e (omega arith))

pub test_cut-requires : goal.test_cut-requires
test_cut-requires c =
    (omega arith, omega arith, kind_same Low _ c.kind.ensures c.read.ensures c.eq.ensures c.if-eq.false)

pub test_whole-requires : goal.test_whole-requires
test_whole-requires c =
    (omega arith, kind_same Low _ c.kind.ensures c.read.ensures c.eq.ensures c.if-eq.false)
