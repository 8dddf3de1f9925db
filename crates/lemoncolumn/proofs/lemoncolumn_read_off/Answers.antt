-- `lemoncolumn::lemoncolumn_read_off`: the code of what Read-off answers, and what it leaves.
-- Assumes nothing.
use mathlib.Core.Path.{ap, ◌∙◌}
use Rattle.call_results.specs.Code.{tests_code}
use Rattle.lemoncolumn.proofs.lemoncolumn_read_off.Goals as goal

pub returns : goal.returns
returns c =
    let called = c.read_off.ensures in
    record { coded = c.tests_code.ensures ∙ ap tests_code called.0; list = called.1 }
