-- `lemoncolumn::lemoncolumn_to_full`: the code of what the converter to the full edition answers, and what it leaves.
-- Assumes nothing.
use mathlib.Core.Path.{ap, ◌∙◌}
use Rattle.call_results.specs.Code.{answer_code}
use Rattle.lemoncolumn.proofs.lemoncolumn_to_full.Goals as goal

pub returns : goal.returns
returns c =
    let called = c.to_full.ensures in
    record { coded = c.answer_code.ensures ∙ ap answer_code called.value; file = called.destination_after }
