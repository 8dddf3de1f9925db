use native.Mathlib.Omega.{arith}
use Rattle.hash_chain.proofs.CodeChain.{starts, input_canonical, goes_on}
use Rattle.hash_chain.proofs.last_state.Goals as goal

pub loop-h-init : goal.loop-h-init
loop-h-init c =
    let start = c.args in
    (omega arith, starts start.ready.table.now start.taps.now _ (omega arith) c.chain_start-state.ensures)

pub final_state-next-requires : goal.final_state-next-requires
final_state-next-requires c =
    let loop = c.loop-h in
    input_canonical c.args.ready.table.now c.args.taps.now loop.h loop.state _ loop.invariant.1
    c.input_of.ensures c.requires.2 (omega arith)

pub loop-h-preserved : goal.loop-h-preserved
loop-h-preserved c =
    let start = c.args in
    let loop = c.loop-h in (
      omega arith,
      goes_on start.ready.table.now start.taps.now loop.h loop.state _ loop.invariant.1
          c.input_of.ensures _ c.final_state-next.ensures,
    )
