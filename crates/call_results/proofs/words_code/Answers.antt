-- `call_results::words_code`: 0, or the code of the refusal.
-- Assumes nothing.
use mathlib.Core.Path.{◌∙◌}
use Rattle.call_results.proofs.Handed.{words_accepted, words_refused}
use Rattle.call_results.proofs.words_code.Goals as goal

pub returns-in-Ok : goal.returns-in-Ok
returns-in-Ok g c = words_accepted _ _ c.in-Ok.is

pub returns-in-Err : goal.returns-in-Err
returns-in-Err g c = c.refusal_code.ensures ∙ words_refused _ _ c.in-Err.is
