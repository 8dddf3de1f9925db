-- `lemoncolumn::lemoncolumn_pack`: the code of what Pack answers, and what it leaves.
-- Assumes nothing.
use mathlib.Core.Path.{ap, ◌∙◌}
use Rattle.call_results.specs.Code.{answer_code}
use Rattle.lemoncolumn.proofs.lemoncolumn_pack.Goals as goal

pub returns : goal.returns
returns c =
    let called = c.pack.ensures in
    record { coded = c.answer_code.ensures ∙ ap answer_code called.value; file = called.destination_after }
