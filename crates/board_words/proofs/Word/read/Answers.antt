-- `board_words::Word::read`: four bytes, low byte first, joined by shifts.
-- Assumes nothing.
use Prim.Native.Nat.{ℕ, ◌+◌, ◌*◌, ◌^◌, ◌<◌}
use native.Mathlib.Omega.{arith}
use lib.ListN.{get_or}
use Rattle.board_words.specs.Words.{word_at}
use Rattle.board_words.proofs.Shifts.{four}
use Rattle.board_words.proofs.Word.read.Goals as goal

pub overflow_cast-b0 : goal.overflow_cast-b0
overflow_cast-b0 c = omega (arith, c.type_inv.file (4 * c.args.index))

pub overflow_cast-b1 : goal.overflow_cast-b1
overflow_cast-b1 c = omega (arith, c.type_inv.file (4 * c.args.index + 1))

pub overflow_cast-b2 : goal.overflow_cast-b2
overflow_cast-b2 c = omega (arith, c.type_inv.file (4 * c.args.index + 2))

pub overflow_cast-b3 : goal.overflow_cast-b3
overflow_cast-b3 c = omega (arith, c.type_inv.file (4 * c.args.index + 3))

pub returns : goal.returns
unfolding word_at
returns c =
    let args = c.args in
    let at : ℕ = 4 * args.index in
    four _ _ _ _ (byte at) (byte (at + 1)) (byte (at + 2)) (byte (at + 3))
  where
    byte : (i : ℕ) → get_or c.args.file.now i 0 < 2 ^ 8
    byte i = omega (arith, c.type_inv.file i)
