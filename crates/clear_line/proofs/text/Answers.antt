-- `clear_line::text`: each arm writes the line of its answer over the start of the buffer.
-- Assumes nothing.
use mathlib.Core.Path.{◌≡◌, refl, sym, ap, ◌∙◌}
use mathlib.Core.List.{List, ◌++◌}
use Prim.Native.Nat.{ℕ, ◌≤◌}
use native.Mathlib.Omega.{arith}
use lib.ListN.{length, drop}
use lib.Seq.{sets}
use Rattle.clear_answer.specs.Clearing.{Outcome}
use Rattle.clear_line.specs.Line.{text_of}
use Rattle.clear_line.proofs.Fields.{over_start}
use Rattle.clear_line.proofs.text.Goals as goal

-- what is written is the line of the answer
told_line : (o p : Outcome) (out new s : List ℕ) (r : ℕ) → o ≡ p → text_of p ≡ s → r ≡ length s → new ≡ sets out 0 s
    → r ≤ length out → (r ≡ length (text_of o)) × (new ≡ text_of o ++ drop r out)
told_line o p out new s r e t q w fits =
    let same : s ≡ text_of o = sym t ∙ sym (ap text_of e) in
    let size : r ≡ length (text_of o) = q ∙ ap length same in (
      size,
      w
          ∙ ap (sets out 0) same
          ∙ over_start (text_of o) out (omega arith)
          ∙ ap (λ k. text_of o ++ drop k out) (sym size),
    )

pub returns-in-Ok : goal.returns-in-Ok
unfolding text_of
returns-in-Ok c =
    let wrote = c.put_line.ensures in
    let told = told_line _ _ _ _ _ _ c.in-Ok.is refl wrote.0 wrote.1 wrote.2 in
    record { value = told.0; out_after = told.1 }

pub returns-in-Err : goal.returns-in-Err
returns-in-Err c =
    let wrote = c.put_unclear.ensures in
    let told = told_line _ _ _ _ _ _ c.in-Err.is refl wrote.0 wrote.1 wrote.2 in
    record { value = told.0; out_after = told.1 }
