-- `board_to_full::to_full`: nothing is written before all tests have passed; then the full file is.
-- Assumes nothing.
use mathlib.Core.Path.{sym, ◌∙◌}
use Rattle.refusals.proofs.Laws.{leaves_old, leaves_new}
use Rattle.board_to_full.specs.ToFull.{to_full_leaves}
use Rattle.board_to_full.proofs.Answers.{accepted}
use Rattle.board_to_full.proofs.to_full.Goals as goal

pub returns-in_err-test-clause-destination_after : goal.returns-in_err-test-clause-destination_after
unfolding to_full_leaves
returns-in_err-test-clause-destination_after c = leaves_old c.test.ensures _ c.in_err-test.was

pub write-requires : goal.write-requires
write-requires c = accepted _ _ (sym c.test.ensures ∙ c.in_ok-test.was)

pub returns-clause-destination_after : goal.returns-clause-destination_after
unfolding to_full_leaves
returns-clause-destination_after c = leaves_new c.test.ensures _ c.in_ok-test.was c.write.ensures
