-- `lemoncolumn::lemoncolumn_check`: the code of what Check answers.
-- Assumes nothing.
use mathlib.Core.Path.{ap, ◌∙◌}
use Rattle.call_results.specs.Code.{tests_code}
use Rattle.lemoncolumn.proofs.lemoncolumn_check.Goals as goal

pub returns : goal.returns
returns c = c.tests_code.ensures ∙ ap tests_code c.check.ensures
