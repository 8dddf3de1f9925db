-- `board_to_short::to_short`: nothing is written before all tests have passed; then the short file is.
-- Assumes nothing.
use mathlib.Core.Path.{sym, ◌∙◌}
use Rattle.refusals.proofs.Laws.{leaves_old, leaves_new}
use Rattle.board_to_short.specs.ToShort.{to_short_leaves}
use Rattle.board_to_short.proofs.Answers.{accepted}
use Rattle.board_to_short.proofs.to_short.Goals as goal

pub returns-in_err-test-clause-destination_after : goal.returns-in_err-test-clause-destination_after
unfolding to_short_leaves
returns-in_err-test-clause-destination_after c = leaves_old c.test.ensures _ c.in_err-test.was

pub write-requires : goal.write-requires
write-requires c = accepted _ _ (sym c.test.ensures ∙ c.in_ok-test.was)

pub returns-clause-destination_after : goal.returns-clause-destination_after
unfolding to_short_leaves
returns-clause-destination_after c = leaves_new c.test.ensures _ c.in_ok-test.was c.write.ensures
