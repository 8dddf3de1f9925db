-- `call_results::tests_code`: the tests, or the code of the refusal.
-- Assumes nothing.
use mathlib.Core.Path.{◌∙◌}
use Rattle.call_results.proofs.Handed.{tests_accepted, tests_refused}
use Rattle.call_results.proofs.tests_code.Goals as goal

pub returns-in-Ok : goal.returns-in-Ok
returns-in-Ok c = c.code.ensures ∙ tests_accepted _ _ c.in-Ok.is

pub returns-in-Err : goal.returns-in-Err
returns-in-Err c = c.refusal_code.ensures ∙ tests_refused _ _ c.in-Err.is
