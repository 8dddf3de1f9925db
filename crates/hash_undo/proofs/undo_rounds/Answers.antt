-- A turn undoes the last of the rounds that are left: its second step, and then its first.
-- Assumes nothing.
use mathlib.Core.Path.{◌≡◌, sym, ap, ap₂, ◌∙◌}
use Prim.Native.Nat.{suc, ◌+◌, ◌-◌}
use native.Mathlib.Omega.{arith}
use Rattle.hash.proofs.CodeStates.{canonical_state}
use Rattle.check_constraints.specs.Constraints.{back_step}
use Rattle.check_constraints.proofs.OneRound.{back_step_state}
use Rattle.hash_undo.specs.Unhash.{round_undone, rounds_undone}
use Rattle.hash_undo.proofs.Rounds.{second_step_undone_state}
use Rattle.hash_undo.proofs.undo_rounds.Goals as goal

pub back_step-before-requires : goal.back_step-before-requires
back_step-before-requires c = (
  omega arith,
  canonical_state c.undo_second_step-middle.ensures (second_step_undone_state _ _ _),
)

pub loop-undone-preserved : goal.loop-undone-preserved
unfolding rounds_undone round_undone
loop-undone-preserved c =
    let T = c.args.back.table.now in
    let undone = c.loop-undone.undone in
    let left : 10 - (undone + 1) ≡ 9 - undone = omega arith in
    let one_more : suc (9 - undone) ≡ 10 - undone = omega arith in (
      canonical_state c.back_step-before.ensures (back_step_state _ _ _),
      ap₂ (rounds_undone T) left
          (c.back_step-before.ensures ∙ ap (back_step T (9 - undone)) c.undo_second_step-middle.ensures)
          ∙ ap (λ n. rounds_undone T n c.loop-undone.state) one_more
          ∙ c.loop-undone.invariant.1,
    )

pub returns : goal.returns
unfolding rounds_undone
returns c =
    let none : 10 - c.loop-undone.undone ≡ 0 = omega arith in
    sym (ap (λ n. rounds_undone c.args.back.table.now n c.loop-undone.state) none) ∙ c.loop-undone.invariant.1
