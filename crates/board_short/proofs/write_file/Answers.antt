-- `board_short::write_file`: word 0, then claim and taps, one after the other.
-- Assumes nothing.
use mathlib.Core.Path.{◌∙◌}
use Rattle.board_short.proofs.Files.{word_fits, claim_fits, taps_fit, file_written}
use Rattle.board_short.proofs.write_file.Goals as goal

pub write-requires : goal.write-requires
write-requires c =
    word_fits c.args.destination.now c.args.taps.now c.args.claim c.requires.1

pub write_all-after_claim-requires : goal.write_all-after_claim-requires
write_all-after_claim-requires c =
    claim_fits _ c.args.taps.now c.args.claim (c.write.auto.destination ∙ c.requires.1)

pub write_all-requires : goal.write_all-requires
write_all-requires c =
    taps_fit _ c.args.taps.now c.args.claim _
    (c.write_all-after_claim.auto.destination ∙ c.write.auto.destination ∙ c.requires.1) c.write_all-after_claim.ensures.value

pub returns : goal.returns
returns c =
    let a = c.args in
    file_written a.destination.now _ _ _ a.taps.now a.claim a.k c.count_word.result.0
    c.write_all-after_claim.result c.requires.1 c.count_word.ensures c.write_all-after_claim.ensures.value
    c.write.ensures c.write_all-after_claim.ensures.destination_after c.write_all.ensures.destination_after
