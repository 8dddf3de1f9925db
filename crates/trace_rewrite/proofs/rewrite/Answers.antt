-- A hash's rows are written from the altered list's input, since its tap is read before they are (`made`).
-- Assumes nothing.
use mathlib.Core.Path.{◌≡◌, refl, sym, ap, ap₂, ◌∙◌, subst}
use mathlib.Core.List.{List}
use Prim.Native.Nat.{ℕ, ◌+◌, ◌*◌, ◌-◌, ◌≤◌, ◌<◌}
use native.Mathlib.Omega.{arith}
use borrow.Author.Rules.{rules}
use lib.ListN.{length, take}
use Rattle.field_words.specs.Words.{AllCanonical}
use Rattle.hash.specs.Hash.{input, tap, output_at}
use Rattle.hash_chain.proofs.CodeChain.{input_canonical, goes_on}
use Rattle.trace.specs.Trace.{trace_row}
use Rattle.trace.specs.RowHelpers.{with_rows, rows_before}
use Rattle.trace.proofs.WrittenRows.{rows_none}
use Rattle.trace.proofs.WrittenHashes.{before_monotone, before_within, all_before, is_input, more_rows}
use Rattle.check_constraints.specs.ReadOff.{read_taps}
use Rattle.trace_rewrite.specs.Edit.{altered}
use Rattle.trace_rewrite.specs.EditHelpers.{Rewritable, tap_of, last_before}
use Rattle.trace_rewrite.proofs.Rewriting as law
use Rattle.trace_rewrite.proofs.rewrite.Goals as goal

-- the input that is made is that of the altered list; the tap is read over the same table, U
made : (T t : List ℕ) (k n : ℕ) (new state : List ℕ) {U rows next made : List ℕ} → U ≡ T → Rewritable T t k n new
    → length new ≡ 4 → (h : ℕ) → n - 1 ≤ h → h < 3 * k → let v = altered (read_taps T t k) n new in
    rows ≡ with_rows (trace_row T v) (rows_before (n - 1)) (rows_before h) t
    → next ≡ tap_of U rows n new (h + 1)
    → made ≡ input (take 4 state) next
    → made ≡ input (take 4 state) (tap v (h + 1))
made T t k n new state same r four h low high at q e =
    e
    ∙ ap (input (take 4 state))
    (q ∙ ap₂ (λ x u. tap_of x u n new (h + 1)) same at ∙ law.next_is T t k n new r four h low high)

pub loop-h-init : goal.loop-h-init
loop-h-init c =
    let a = c.args in
    let r = c.requires in
    let T = a.steps.ready.table.now in
    let t = a.trace.now in
    let v = altered (read_taps T t a.k) a.tap.0 a.words in
    let first = c.hash-first.ensures in
    let four : length a.words ≡ 4 = search rules in (
      omega arith,
      refl,
      ap (take 4) (c.last_before-state.ensures ∙ ap (λ x. last_before x t a.tap.0 a.words) a.steps.same)
          ∙ law.starts T t a.k a.tap.0 a.words r four
          ∙ ap (output_at T v) (sym first),
      sym
          (ap (λ n. with_rows (trace_row T v) (rows_before (a.tap.0 - 1)) (rows_before n) t) first
          ∙ rows_none (trace_row T v) (rows_before (a.tap.0 - 1)) t),
    )

-- what the rows hold before a turn is canonical, and the hash's tap is read of them
pub next_tap-next-requires : goal.next_tap-next-requires
next_tap-next-requires c =
    let a = c.args in
    let r = c.requires in
    let four : length a.words ≡ 4 = search rules in
    let canonical = subst AllCanonical (sym c.loop-h.invariant.3)
    (law.canonical_rows a.steps.ready.table.now a.trace.now a.k a.tap.0 a.words r four c.loop-h.h
    (omega (arith, c.hash-first.ensures, c.loop-h.invariant.0)) (omega arith)) in
    law.has_tap r canonical c.loop-h.invariant.1 (omega arith)

pub write_hash-last-requires : goal.write_hash-last-requires
write_hash-last-requires c =
    let a = c.args in
    let r = c.requires in
    let loop = c.loop-h in
    let v = altered (read_taps a.steps.ready.table.now a.trace.now a.k) a.tap.0 a.words in
    let four : length a.words ≡ 4 = search rules in
    let size = law.size_v a.steps.ready.table.now a.trace.now a.k a.tap.0 a.words r four in
    let e = made a.steps.ready.table.now a.trace.now a.k a.tap.0 a.words loop.state a.steps.same r four loop.h
    (omega (arith, c.hash-first.ensures, loop.invariant.0)) (omega arith) loop.invariant.3 c.next_tap-next.ensures
    c.next_input-input.ensures in (
      input_canonical a.steps.ready.table.now v loop.h loop.state _ loop.invariant.2 e
          (law.canonical_v a.steps.ready.table.now a.trace.now a.k a.tap.0 a.words r four)
          (omega (arith, size)),
      omega (arith, r.few),
      omega (arith, before_within a.k (loop.h + 1) (omega arith), r.size, loop.invariant.1),
    )

pub loop-h-preserved : goal.loop-h-preserved
loop-h-preserved c =
    let a = c.args in
    let r = c.requires in
    let loop = c.loop-h in
    let T = a.steps.ready.table.now in
    let v = altered (read_taps T a.trace.now a.k) a.tap.0 a.words in
    let four : length a.words ≡ 4 = search rules in
    let low : a.tap.0 - 1 ≤ loop.h = omega (arith, c.hash-first.ensures, loop.invariant.0) in
    let e = made T a.trace.now a.k a.tap.0 a.words loop.state a.steps.same r four loop.h low (omega arith)
    loop.invariant.3 c.next_tap-next.ensures c.next_input-input.ensures in (
      omega arith,
      c.write_hash-last.auto.destination ∙ loop.invariant.1,
      goes_on T v loop.h loop.state _ loop.invariant.2 e _ c.write_hash-last.ensures.0,
      more_rows T v (rows_before (a.tap.0 - 1)) loop.h _ a.trace.now loop.trace _
          (before_monotone (a.tap.0 - 1) loop.h low)
          (omega (arith, before_within a.k (loop.h + 1) (omega arith), r.size))
          (is_input T v loop.h loop.state _ loop.invariant.2 e) loop.invariant.3 c.write_hash-last.ensures.1,
    )

pub returns : goal.returns
returns c =
    let a = c.args in
    let loop = c.loop-h in
    let v = altered (read_taps a.steps.ready.table.now a.trace.now a.k) a.tap.0 a.words in
    let four : length a.words ≡ 4 = search rules in
    let e : loop.h ≡ 3 * a.k = omega arith in
    loop.invariant.3
    ∙ ap (λ n. with_rows (trace_row a.steps.ready.table.now v) (rows_before (a.tap.0 - 1)) n a.trace.now)
    (ap rows_before e ∙ all_before a.k)
    ∙ law.rewritten a.steps.ready.table.now a.trace.now a.k a.tap.0 a.words c.requires four
