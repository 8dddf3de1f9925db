-- `table_prepare::prepare`: each return is the case of the definition that the tests before it left.
-- Assumes nothing.
use mathlib.Core.Path.{sym, ◌∙◌}
use native.Mathlib.Omega.{arith}
use lib.ListN.{length}
use Rattle.lists.proofs.Tab.{length_part}
use Rattle.field_words.proofs.Laws.{all_good, good_test, bad_test}
use Rattle.table.specs.Table.{refuses, no_inverse}
use Rattle.table.proofs.Parts.{part_canonical}
use Rattle.table_prepare.proofs.Prepared.{wrong_length, wrong_room, wrong_word, raw_accepted, written}
use Rattle.table_prepare.proofs.prepare.Goals as goal

pub returns-then-raw-ne-RAW_WORDS : goal.returns-then-raw-ne-RAW_WORDS
returns-then-raw-ne-RAW_WORDS c =
    let s = c.args in
    refuses _ (wrong_length s.raw.now (length s.destination.now) c.if-raw-ne-RAW_WORDS.true)

pub returns-then-destination-ne-WORDS : goal.returns-then-destination-ne-WORDS
returns-then-destination-ne-WORDS c =
    let s = c.args in
    refuses _ (wrong_room s.raw.now (length s.destination.now) c.if-raw-ne-RAW_WORDS.false c.if-destination-ne-WORDS.true)

pub returns-in-Some : goal.returns-in-Some
returns-in-Some c =
    let s = c.args in
    let size = c.if-raw-ne-RAW_WORDS.false in
    let bad = c.in-Some.ensures in
    refuses _
    (wrong_word s.raw.now (length s.destination.now) size c.if-destination-ne-WORDS.false _ bad.1
    (λ e. omega (arith, bad.1, bad_test s.raw.now bad.0)))

pub slice_bounds-invert-end : goal.slice_bounds-invert-end
slice_bounds-invert-end c = sym (length_part c.args.raw.now 0 144 (omega arith))

pub invert-requires : goal.invert-requires
invert-requires c =
    let raw = c.args.raw.now in (
      length_part raw 0 144 (omega arith),
      part_canonical raw 0 144 (omega arith) (good_test raw c.in_default.ensures),
    )

pub returns-in_default-invert : goal.returns-in_default-invert
returns-in_default-invert c =
    let s = c.args in
    let size = c.if-raw-ne-RAW_WORDS.false in
    let good = all_good s.raw.now (good_test s.raw.now c.in_default.ensures) ∙ size in
    let t = raw_accepted s.raw.now (length s.destination.now) size c.if-destination-ne-WORDS.false good in
    no_inverse t c.in_default-invert.ensures

pub write-requires : goal.write-requires
write-requires c =
    (c.if-raw-ne-RAW_WORDS.false, c.in-Some-invert.ensures.size, c.if-destination-ne-WORDS.false)

pub returns : goal.returns
returns c =
    let s = c.args in
    let size = c.if-raw-ne-RAW_WORDS.false in
    let good = all_good s.raw.now (good_test s.raw.now c.in_default.ensures) ∙ size in
    let t = raw_accepted s.raw.now (length s.destination.now) size c.if-destination-ne-WORDS.false good in
    written s.raw.now s.destination.now t _ _ c.in-Some-invert.ensures c.write.ensures
