-- `lemoncolumn::lemoncolumn_pack_short`: the code of what the short edition's writer answers, and what it leaves.
-- Assumes nothing.
use mathlib.Core.Path.{ap, ◌∙◌}
use Rattle.call_results.specs.Code.{answer_code}
use Rattle.lemoncolumn.proofs.lemoncolumn_pack_short.Goals as goal

pub returns : goal.returns
returns c =
    let called = c.pack_short.ensures in
    record { coded = c.answer_code.ensures ∙ ap answer_code called.value; file = called.destination_after }
