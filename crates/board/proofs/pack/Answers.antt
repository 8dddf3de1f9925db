-- `board::pack`: nothing is written before all tests have passed; then the file is.
-- Assumes nothing.
use mathlib.Core.Path.{sym, ◌∙◌}
use Rattle.refusals.proofs.Laws.{leaves_old, leaves_new}
use Rattle.board.specs.Board.{packed, pack_leaves}
use Rattle.board.proofs.Answers.{pack_accepted}
use Rattle.board.proofs.pack.Goals as goal

pub returns-in_err-test_pack-clause-destination_after : goal.returns-in_err-test_pack-clause-destination_after
unfolding pack_leaves
returns-in_err-test_pack-clause-destination_after c = leaves_old c.test_pack.ensures _ c.in_err-test_pack.was

pub write_file-requires : goal.write_file-requires
write_file-requires c =
    let h = pack_accepted _ _ _ (sym c.test_pack.ensures ∙ c.in_ok-test_pack.was) in
    (h.permitted.high, h.taps_size, h.size_is)

pub returns-clause-destination_after : goal.returns-clause-destination_after
unfolding packed pack_leaves
returns-clause-destination_after c = leaves_new c.test_pack.ensures _ c.in_ok-test_pack.was c.write_file.ensures
