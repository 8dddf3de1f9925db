use Prim.Native.Nat.{ℕ, ◌+◌, ◌*◌, ◌-◌, ◌<◌}
use mathlib.Core.Path.{◌≡◌, ap₂, ◌∙◌}
use mathlib.Core.List.{List}
use native.Mathlib.Omega.{arith}
use lib.ListN.{length, length-set}
use lib.Seq.{get_or-set_same, get_or-set_other}
use borrow.Rule.Slice.PartMut.{put_mid}
use Rattle.std.proofs.Common.{rules, below_more}
use Rattle.std.proofs.lemmas.List.{places}
use Rattle.field.specs.MontgomeryHelpers.{times_word}
use Rattle.field.proofs.Forms.{times_entered}
use Rattle.lists.specs.Lists.{cell}
use Rattle.matrix_inverse.specs.EliminationHelpers.{RowSet}
use Rattle.matrix_inverse.proofs.scale.Goals as goal

-- row r put back, all of it written
row_put : (w x : List ℕ) (r : ℕ) (f : ℕ → ℕ) → length w ≡ 288 → r < 12 → length x ≡ 24
    → ((k : ℕ) → k < 24 → cell x k ≡ f k) → RowSet w (put_mid (24 * r) (24 * (r + 1) - 24 * r) w x) r 24 f
row_put w x r f e hr ex h =
    record {
      size = grind (arith, places);
      done = λ l hl. inside l hl ∙ h l hl;
      rest = λ i l hi hl ne. search (rules, places);
    }
  where
    inside : (l : ℕ) → l < 24 → cell (put_mid (24 * r) (24 * (r + 1) - 24 * r) w x) (24 * r + l) ≡ cell x l
    inside l hl = search (rules, places)

pub loop-x-preserved : goal.loop-x-preserved
loop-x-preserved c =
    let l = c.loop-x in
    let here = l.invariant.2 l.x-index (omega arith) (omega (arith, l.invariant.0)) in
    let factors = ap₂ times_word here c.enter-factor.ensures.0 in
    let made = c.times.ensures.0 ∙ factors ∙ times_entered _ _ c.args.c.canonical in
    let same = get_or-set_same l.x-items l.x-index c.times.result 0 (omega arith) in (
      length-set l.x-items l.x-index c.times.result ∙ l.invariant.0,
      below_more _ _
          (λ k h. get_or-set_other l.x-items l.x-index k c.times.result 0 (λ e. omega arith) ∙ l.invariant.1 k h)
          (same ∙ made),
      λ k a b. get_or-set_other l.x-items l.x-index k c.times.result 0 (λ e. omega arith)
          ∙ l.invariant.2 k (omega arith) b,
    )

pub returns : goal.returns
returns c = row_put _ _ _ _ c.told-w c.requires.0 c.loop-x.invariant.0 (λ k h. c.loop-x.invariant.1 k (omega arith))
