-- `call_results::hand_over`: the words stored, or none.
-- Assumes nothing.
use Rattle.call_results.proofs.Handed.{handed_accepted, handed_refused}
use Rattle.call_results.proofs.hand_over.Goals as goal

pub returns-in-Ok : goal.returns-in-Ok
returns-in-Ok g c =
    handed_accepted _ _ _ _ c.in-Ok.is c.copy_from_slice.ensures.after

pub returns-in-Err : goal.returns-in-Err
returns-in-Err g c = handed_refused _ _ _ _ c.in-Err.is c.refusal_code.ensures
