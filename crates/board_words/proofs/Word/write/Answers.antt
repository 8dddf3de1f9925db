-- `board_words::Word::write`: four stores, low byte first.
-- Assumes nothing.
use mathlib.Core.Path.{◌≡◌}
use Prim.Native.Nat.{ℕ, ◌/◌, ◌%◌, ◌^◌}
use native.Mathlib.Numerals.{towards_suc}
use native.Mathlib.Omega.{arith}
use lib.Bits.{and_mask, mask_lt}
use lib.ListN.{length-set}
use Rattle.board_words.proofs.Word.write.Goals as goal

pub overflow_cast-destination : goal.overflow_cast-destination
overflow_cast-destination c = record { fits = mask_lt c.args.self.0 8 }

pub overflow_cast-destination-2 : goal.overflow_cast-destination-2
overflow_cast-destination-2 c = record { fits = mask_lt (c.args.self.0 / 2 ^ 8) 8 }

pub bounds-destination-at-2 : goal.bounds-destination-at-2
bounds-destination-at-2 c = simp length-set (omega arith)

pub overflow_cast-destination-3 : goal.overflow_cast-destination-3
overflow_cast-destination-3 c = record { fits = mask_lt (c.args.self.0 / 2 ^ 16) 8 }

pub bounds-destination-at-3 : goal.bounds-destination-at-3
bounds-destination-at-3 c = simp length-set (omega arith)

pub bounds-destination-at-4 : goal.bounds-destination-at-4
bounds-destination-at-4 c = simp length-set (omega arith)

pub returns : goal.returns
returns c =
    let w : ℕ = c.args.self.0 in
    let top : w / 2 ^ 24 % 2 ^ 8 ≡ w / 2 ^ 24 = omega arith in
    simp (towards_suc, and_mask w 8, and_mask (w / 2 ^ 8) 8, and_mask (w / 2 ^ 16) 8, top)
