-- `board_words::write_upper`: two words, one after the other; the mask leaves the definition's payload.
-- Assumes nothing.
use mathlib.Core.Path.{refl, ap, ◌∙◌}
use Prim.Native.Nat.{◌+◌, ◌/◌, ◌^◌}
use native.Mathlib.Omega.{arith}
use lib.Bits.{and_mask, mask_lt}
use Rattle.board_words.specs.Words.{joined}
use Rattle.board_words.proofs.Laws.{write_on, write_one}
use Rattle.board_words.proofs.write_upper.Goals as goal

pub overflow_cast-middle : goal.overflow_cast-middle
overflow_cast-middle c = omega (arith, mask_lt (c.args.element / 2 ^ 30) 30)

pub join-requires-2 : goal.join-requires-2
join-requires-2 c = mask_lt (c.args.element / 2 ^ 30) 30

pub returns : goal.returns
returns c =
    let a = c.args in
    let m = c.join-2.ensures ∙ ap (joined 2) (and_mask (a.element / 2 ^ 30) 30) in
    write_on a.destination.now _ _ _ _ a.index 1 refl
    (write_one _ _ a.index _ _ c.join.ensures c.write.ensures)
    (write_one _ _ (a.index + 1) _ _ m c.write-2.ensures)
