use Prim.Native.Nat.{◌+◌}
use mathlib.Core.Path.{sym, subst}
use Rattle.matrix_inverse.proofs.Steps.{Cleared, cleared_same, cleared_more}
use Rattle.matrix_inverse.proofs.clear.Goals as goal
use Rattle.matrix_inverse.proofs.clear.Goals.{then-i-j, else-i-j}

pub loop-i-preserved : goal.loop-i-preserved
loop-i-preserved c =
    let loop = c.loop-i in
    elim c.if-i-j.branch [
      | then-i-j a ↦ subst (λ y. Cleared c.args.w.now y c.args.j (loop.i + 1)) (sym a.w-is)
          (cleared_more _ _ _ _ _ c.requires.0 c.loop-i-test.true loop.invariant a.if-i-j.true a.clear_word.ensures)
      | else-i-j a ↦ subst (λ y. Cleared c.args.w.now y c.args.j (loop.i + 1)) (sym a.w-is)
          (cleared_same _ _ _ _ loop.invariant a.if-i-j.false)
    ]
