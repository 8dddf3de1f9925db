use mathlib.Core.Path.{◌≡◌, refl, sym, ap, ◌∙◌}
use Prim.Native.Nat.{◌+◌, ◌*◌}
use native.Mathlib.Omega.{arith}
use Rattle.hash.specs.Hash.{output_at, chain}
use Rattle.hash_chain.proofs.CodeChain.{starts, input_canonical, goes_on}
use Rattle.trace.specs.Trace.{trace_row}
use Rattle.trace.specs.RowHelpers.{with_rows, rows_before}
use Rattle.trace.proofs.WrittenRows.{rows_none}
use Rattle.trace.proofs.WrittenHashes.{before_within, all_before, is_input, more_rows, all_rows}
use Rattle.trace.proofs.write_hashes.Goals as goal

pub loop-h-init : goal.loop-h-init
unfolding rows_before
loop-h-init c =
    let start = c.args in (
      omega arith,
      refl,
      starts start.ready.table.now start.taps.now _ (omega arith) c.chain_start-state.ensures,
      sym (rows_none _ 0 start.destination.now),
    )

pub write_hash-next-requires : goal.write_hash-next-requires
write_hash-next-requires c =
    let loop = c.loop-h in (
      input_canonical c.args.ready.table.now c.args.taps.now loop.h loop.state _ loop.invariant.2
          c.input_of-input.ensures c.requires.0 (omega arith),
      omega arith,
      omega (arith, before_within c.args.k (loop.h + 1) (omega arith)),
    )

pub loop-h-preserved : goal.loop-h-preserved
loop-h-preserved c =
    let start = c.args in
    let loop = c.loop-h in
    let T = start.ready.table.now in
    let w = start.taps.now in (
      omega arith,
      c.write_hash-next.auto.destination ∙ loop.invariant.1,
      goes_on T w loop.h loop.state _ loop.invariant.2 c.input_of-input.ensures _
          c.write_hash-next.ensures.0,
      more_rows T w 0 loop.h _ start.destination.now loop.destination _ (omega arith)
          (omega (arith, c.requires.3, before_within start.k (loop.h + 1) (omega arith)))
          (is_input T w loop.h loop.state _ loop.invariant.2 c.input_of-input.ensures) loop.invariant.3
          c.write_hash-next.ensures.1,
    )

pub returns : goal.returns
unfolding chain
returns c =
    let a = c.args in
    let loop = c.loop-h in
    let e : loop.h ≡ 3 * a.k = omega arith in (
      loop.invariant.2 ∙ ap (output_at a.ready.table.now a.taps.now) e,
      loop.invariant.3
          ∙ ap (λ n. with_rows (trace_row a.ready.table.now a.taps.now) 0 n a.destination.now)
          (ap rows_before e ∙ all_before a.k)
          ∙ all_rows a.ready.table.now a.taps.now a.k a.destination.now c.requires.3,
    )
