-- `board_edition::test`: each return is the case of the definition that the tests before it left.
-- Assumes nothing.
use mathlib.Core.Path.{◌≡◌, sym, ap, ◌∙◌}
use Prim.Native.Nat.{ℕ, ◌/◌, ◌^◌}
use borrow.Author.Tests.{eq-eqb, ne_eqb, le-leb, lt-leb}
use Rattle.board_words.specs.Words.{payload_of}
use Rattle.board_words.specs.declared.Kind.TheVariants.{Count}
use Rattle.board_words.proofs.Words.{kind_other}
use Rattle.board_short.specs.ShortBoard.{mark_in}
use Rattle.board_edition.specs.Edition.{edition_test}
use Rattle.board_edition.proofs.test.Goals as goal

mark_is : {p w v : ℕ} → p ≡ payload_of w → w ≡ v → p / 2 ^ 29 ≡ mark_in v
mark_is e f = ap (λ n. n / 2 ^ 29) (e ∙ ap payload_of f)

pub returns-then-file-lt4 : goal.returns-then-file-lt4
unfolding edition_test
returns-then-file-lt4 c = rw (lt-leb _ _ c.if-file-lt4.true)

pub returns-then-ne : goal.returns-then-ne
unfolding edition_test
returns-then-ne c = rw (
  le-leb _ _ c.if-file-lt4.false,
  kind_other Count _ c.kind.ensures c.read-word.ensures c.ne.ensures c.if-ne.true,
)

pub returns-then-payload-mark : goal.returns-then-payload-mark
unfolding edition_test
returns-then-payload-mark c =
    let mark = mark_is c.payload.ensures c.read-word.ensures in
    rw (
      le-leb _ _ c.if-file-lt4.false,
      kind_other Count _ c.kind.ensures c.read-word.ensures c.ne.ensures c.if-ne.false,
      ne_eqb _ _ (λ e. c.if-payload-mark.true (mark ∙ e)),
    )

pub returns : goal.returns
unfolding edition_test
returns c =
    let mark = mark_is c.payload.ensures c.read-word.ensures in
    rw (
      le-leb _ _ c.if-file-lt4.false,
      kind_other Count _ c.kind.ensures c.read-word.ensures c.ne.ensures c.if-ne.false,
      eq-eqb _ _ (sym mark ∙ c.if-payload-mark.false),
    )
