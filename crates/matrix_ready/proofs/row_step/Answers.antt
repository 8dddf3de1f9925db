-- `matrix_ready::row_step`: the two terms of the step, one after the other.
-- Assumes nothing.
use mathlib.Core.Path.{◌≡◌, sym, ap, subst, ◌∙◌}
use Prim.Native.Nat.{ℕ, ◌+◌, ◌*◌, ◌%◌, ◌^◌}
use native.Mathlib.Omega.{arith}
use Rattle.lists.specs.Lists.{cell}
use Rattle.field.specs.Field.{P, Canonical}
use Rattle.field.specs.Gathering.{gathered}
use Rattle.field_sums.proofs.Terms.{loose_same, gathered_loose}
use Rattle.matrix_ready.proofs.row_step.Goals as goal

-- where the next column stands
next_place : (j i : ℕ) → 24 * (j + 1) + i ≡ 24 * j + 24 + i
next_place j i = omega arith

next_raised : (j i : ℕ) → 24 * (j + 1) + 12 + i ≡ 24 * j + 24 + 12 + i
next_raised j i = omega arith

pub term-requires : goal.term-requires
term-requires c =
    let i = c.args.i in
    let p = c.requires in
    let r = c.args.ready.now in
    let low = next_place c.args.j i in
    let high = next_raised c.args.j i in (
      record {
        so_far = c.loose_term-between.ensures.1;
        first = subst (λ k. Canonical (cell r k)) low (p.1.canonical i (c.args.j + 1) p.2 p.3);
        raised = ap (cell r) (sym high)
            ∙ p.1.raised i (c.args.j + 1) p.2 p.3
            ∙ ap (λ k. 2 ^ 31 * cell r k % P) low;
        second = p.5;
      },
      p.6,
    )

pub returns : goal.returns
returns c =
    let a = c.args in
    let r = a.ready.now in
    let low = cell r (24 * a.j + a.i) in (
      c.term.ensures.0
          ∙ gathered_loose _ _ _ a.y (ap (λ v. v % P) c.loose_term-between.ensures.0 ∙ loose_same _ _ _)
          ∙ ap (λ k. gathered (gathered a.word low a.x) (cell r k) a.y) (sym (next_place a.j a.i)),
      c.term.ensures.1,
    )
