-- `board_words::write_low`: one word; the mask leaves the definition's payload.
-- Assumes nothing.
use mathlib.Core.Path.{ap, ◌∙◌}
use native.Mathlib.Omega.{arith}
use lib.Bits.{and_mask, mask_lt}
use Rattle.board_words.specs.Words.{joined}
use Rattle.board_words.proofs.Laws.{write_one}
use Rattle.board_words.proofs.write_low.Goals as goal

pub overflow_cast-low : goal.overflow_cast-low
overflow_cast-low c = omega (arith, mask_lt c.args.element 30)

pub join-requires : goal.join-requires
join-requires c = mask_lt c.args.element 30

pub returns : goal.returns
returns c =
    let a = c.args in
    write_one a.destination.now _ a.index _ _
    (c.join.ensures ∙ ap (joined 3) (and_mask a.element 30)) c.write.ensures
