-- `trace::write_hash`: input, middle states and final state are the rows that the hash fills.
-- Assumes nothing.
use native.Mathlib.Omega.{arith}
use Rattle.trace.proofs.WrittenHashes.{ranges, hash_rows}
use Rattle.trace.proofs.write_hash.Goals as goal

pub write_rounds-state-requires : goal.write_rounds-state-requires
write_rounds-state-requires c =
    let first = c.first_row.ensures in
    let kept = c.write_input.auto.destination in (
      c.requires.0,
      omega (arith, c.requires.1, first),
      omega (arith, c.requires.2, first, (ranges c.args.hash.0).final_last, kept),
    )

pub returns : goal.returns
returns c =
    let a = c.args in (
      c.write_rounds-state.ensures.0,
      hash_rows a.ready.table.now a.input a.hash.0 _ a.destination.now _ _ _ c.first_row.result.0
          c.requires.2 c.write_input.ensures c.first_row.ensures c.write_rounds-state.ensures.1
          c.write_rounds-state.ensures.0 c.write_final.ensures,
    )
