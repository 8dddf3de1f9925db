-- `clear_line::put_numbers`: the numbers passed are written, each after a space, and take at most 21 bytes.
-- Assumes nothing.
use mathlib.Core.Path.{◌≡◌}
use Prim.Native.Nat.{◌+◌, ◌*◌, ◌≤◌}
use lib.ListN.{length, take}
use lib.Seq.{sets}
use Rattle.clear_line.specs.Line.{fields}
use Rattle.clear_line.proofs.put_numbers.Given as goal

abbrev pub invariant-loop-number : goal.invariant-loop-number
invariant-loop-number l = record {
  place : l.end ≡ l.at + length (fields (take l.number-index l.numbers));
  bytes : l.out ≡ sets l.initial.out l.at (fields (take l.number-index l.numbers));
  room : length (fields (take l.number-index l.numbers)) ≤ 21 * l.number-index;
}
