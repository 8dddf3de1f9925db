-- `board_short_read::read`: one word or three, by the kind of the first.
-- Assumes nothing.
use mathlib.Core.Path.{sym, ap, ◌∙◌}
use native.Mathlib.Omega.{arith}
use borrow.Author.Tests.{eqb-true}
use Rattle.board_words.specs.Words.{payload_of}
use Rattle.board_words.specs.declared.Kind.TheVariants.{Low}
use Rattle.board_words.proofs.Words.{kind_same}
use Rattle.board_short_read.proofs.Tests.{accepted, first_whole, of_three, one_at, one_next, three_at, three_next}
use Rattle.board_short_read.proofs.read.Goals as goal

pub read-first-requires : goal.read-first-requires
read-first-requires c = first_whole _ _ c.requires

pub overflow_add-result : goal.overflow_add-result
overflow_add-result c = omega (arith, first_whole _ _ c.requires)

pub returns-then-eq : goal.returns-then-eq
returns-then-eq c =
    let e = eqb-true _ _ (kind_same Low _ c.kind.ensures c.read-first.ensures c.eq.ensures c.if-eq.true) in
    (c.payload.ensures ∙ ap payload_of c.read-first.ensures ∙ sym (one_at _ _ e), sym (one_next _ _ e))

pub read-requires : goal.read-requires
read-requires c =
    of_three _ _ (kind_same Low _ c.kind.ensures c.read-first.ensures c.eq.ensures c.if-eq.false)
    (accepted _ _ c.requires)

pub overflow_add-result-2 : goal.overflow_add-result-2
overflow_add-result-2 c =
    let three =
    of_three _ _ (kind_same Low _ c.kind.ensures c.read-first.ensures c.eq.ensures c.if-eq.false)
    (accepted _ _ c.requires) in
    omega (arith, three.0)

pub returns : goal.returns
returns c =
    let e = kind_same Low _ c.kind.ensures c.read-first.ensures c.eq.ensures c.if-eq.false in
    (c.read.ensures ∙ sym (three_at _ _ e), sym (three_next _ _ e))
