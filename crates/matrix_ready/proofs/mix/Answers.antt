-- `matrix_ready::mix`: a step of every row is one more step of every sum.
-- Assumes nothing.
use mathlib.Core.Path.{◌≡◌, refl, ap, ◌∙◌}
use Prim.Native.Nat.{suc, ◌+◌, ◌*◌}
use native.Mathlib.Omega.{arith}
use Rattle.lists.specs.Lists.{cell}
use Rattle.matrix_ready.specs.MixingHelpers.{ready_entry}
use Rattle.matrix_ready.proofs.RowWords.{row_words, none_gathered, all_gathered}
use Rattle.matrix_ready.proofs.ReadyWords.{two_gathered}
use Rattle.matrix_ready.proofs.mix.Goals as goal

pub loop-step-init : goal.loop-step-init
loop-step-init c = (omega arith, none_gathered _ _)

pub loop-step-preserved : goal.loop-step-preserved
loop-step-preserved c =
    let turn = c.loop-step in
    let r = c.args.ready.now in
    let s = c.args.s.words in
    let one : suc turn.step ≡ turn.step + 1 = omega arith in (
      omega arith,
      c.add_two_columns.ensures
          ∙ two_gathered r s c.requires (2 * turn.step) turn.step refl (omega arith) turn.words.words turn.invariant.1
          ∙ ap (row_words (ready_entry r) (cell s)) one,
    )

pub returns : goal.returns
returns c =
    let a = ready_entry c.args.ready.now in
    let s = cell c.args.s.words in
    let e : c.loop-step.step ≡ 6 = omega arith in
    c.loop-step.invariant.1 ∙ ap (row_words a s) e ∙ all_gathered a s
