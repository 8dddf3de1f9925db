-- `clear_line::put_numbers`: there is room for the next number, which is written after those passed.
-- Assumes nothing.
use mathlib.Core.Path.{refl}
use native.Mathlib.Omega.{arith}
use lib.ListN.{length-set}
use Rattle.lists.specs.Lists.{each}
use Rattle.clear_line.specs.Line.{fields}
use Rattle.clear_line.proofs.Fields.{length_next, length_small, write_next}
use Rattle.clear_line.proofs.put_numbers.Goals as goal

pub loop-number-init : goal.loop-number-init
unfolding fields each
loop-number-init c = record { place = omega arith; bytes = refl; room = omega arith }

pub put_number-end-requires : goal.put_number-end-requires
put_number-end-requires c =
    let loop = c.loop-number in
    omega (
      arith,
      length-set loop.out loop.end 32,
      length_small _ c.type_inv.n.fits,
      loop.invariant.place,
      loop.invariant.room,
      loop.auto.out,
      c.requires,
    )

pub loop-number-preserved : goal.loop-number-preserved
loop-number-preserved c =
    let loop = c.loop-number in
    let numbers = c.args.numbers.now in
    let next = length_next numbers loop.number-index (omega arith) in
    let wrote = c.put_number-end.ensures in
    record {
      place = omega (arith, wrote.0, loop.invariant.place, next);
      bytes = write_next numbers loop.number-index (omega arith) _ _ _ _ _ loop.invariant.place loop.invariant.bytes
          wrote.1;
      room = omega (arith, next, wrote.0, wrote.2, loop.invariant.room);
    }
