use mathlib.Core.Path.{◌≡◌, refl, sym, ap, ◌∙◌}
use mathlib.Core.List.{List}
use Prim.Native.Nat.{ℕ, ◌+◌, ◌*◌, ◌-◌, ◌≤◌, ◌<◌}
use native.Mathlib.Numerals.{add-one}
use native.Mathlib.Omega.{arith}
use lib.ListN.{length}
use Rattle.hash.specs.Hash.{first_step, second_step, state_at, middle_state, final_state}
use Rattle.hash.proofs.States.{first_step_state, second_step_state, state_at_state, state_at_suc}
use Rattle.hash.proofs.CodeStates.{canonical_state}
use Rattle.trace.specs.RowHelpers.{with_rows}
use Rattle.trace.proofs.WrittenRows.{rows_none, rows_join, rows_ext}
use Rattle.trace.proofs.write_rounds.Invariants.{Passed}
use Rattle.trace.proofs.write_rounds.Goals as goal

next : (T s : List ℕ) (first : ℕ) (old new state : List ℕ) (round : ℕ) (new₂ middle state₂ : List ℕ) →
    12 * (first + round) ≤ length old →
    middle ≡ first_step T round state →
    new₂ ≡ with_rows (λ i. middle) (first + round) (first + round + 1) new →
    state₂ ≡ second_step T round middle →
    Passed T s first old new state round →
    Passed T s first old new₂ state₂ (round + 1)
unfolding middle_state
next T s first old new state round new₂ middle state₂ l em en es p =
    record {
      at = es
          ∙ ap (second_step T round) is-middle
          ∙ sym (state_at_suc T s round)
          ∙ ap (state_at T s) (sym (add-one round));
      rows = en
          ∙ ap (with_rows (λ i. middle) r (r + 1)) p.rows
          ∙ rows_ext _ row r (r + 1) _ same
          ∙ rows_join row first r old (omega arith) l (r + 1) (omega arith)
          ∙ ap (λ n. with_rows row first n old) more;
    }
  where
    r : ℕ
    r = first + round

    row : ℕ → List ℕ
    row i = middle_state T s (i - first)

    is-middle : middle ≡ middle_state T s round
    is-middle = em ∙ ap (first_step T round) p.at

    same : (i : ℕ) → r ≤ i → i < r + 1 → middle ≡ row i
    same i h g =
        let e : round ≡ i - first = omega arith in
        is-middle ∙ ap (middle_state T s) e

    more : r + 1 ≡ first + (round + 1)
    more = omega arith

pub loop-round-init : goal.loop-round-init
loop-round-init c =
    let a = c.args in
    let r = a.row.0 in
    let d = a.destination.now in
    let z : r + 0 ≡ r = omega arith in (
      omega arith,
      canonical_state c.plus_initial-state.ensures (state_at_state _ _ 0),
      refl,
      λ s e. record {
        at = e;
        rows = sym
            (ap (λ n. with_rows (λ i. middle_state a.ready.table.now s (i - r)) r n d) z ∙ rows_none _ r d);
      },
    )

pub second_step-next-requires : goal.second_step-next-requires
second_step-next-requires c =
    (omega arith, canonical_state c.first_step-middle.ensures (first_step_state _ _ _))

pub loop-round-preserved : goal.loop-round-preserved
loop-round-preserved c =
    let start = c.args in
    let loop = c.loop-round in (
      omega arith,
      canonical_state c.second_step-next.ensures (second_step_state _ _ _),
      c.write_row.auto.destination ∙ loop.invariant.2,
      λ s e. next start.ready.table.now s start.row.0 start.destination.now loop.destination loop.state
          loop.round _ _ _ (omega (arith, c.requires.2)) c.first_step-middle.ensures c.write_row.ensures
          c.second_step-next.ensures (loop.invariant.3 s e),
    )

pub returns : goal.returns
unfolding final_state
returns c =
    let start = c.args in
    let T = start.ready.table.now in
    let first = start.row.0 in
    let e : c.loop-round.round ≡ 10 = omega arith in
    let passed = c.loop-round.invariant.3 start.input c.plus_initial-state.ensures in (
      passed.at ∙ ap (state_at T start.input) e,
      passed.rows
          ∙ ap (λ n. with_rows (λ i. middle_state T start.input (i - first)) first (first + n)
          start.destination.now) e,
    )
