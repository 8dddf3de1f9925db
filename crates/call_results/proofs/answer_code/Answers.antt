-- `call_results::answer_code`: 0, or the code of the refusal.
-- Assumes nothing.
use mathlib.Core.Path.{◌∙◌}
use Rattle.call_results.proofs.Handed.{answer_accepted, answer_refused}
use Rattle.call_results.proofs.answer_code.Goals as goal

pub returns-in-Ok : goal.returns-in-Ok
returns-in-Ok c = answer_accepted _ c.in-Ok.is

pub returns-in-Err : goal.returns-in-Err
returns-in-Err c = c.refusal_code.ensures ∙ answer_refused _ _ c.in-Err.is
