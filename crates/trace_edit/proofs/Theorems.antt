-- Edit accepts exactly what Check accepts, for a tap that is there and canonical words in its place; and a tap replaced
-- in a list of canonical taps leaves the earlier rows of its trace as they were, and alters the first row touched.
-- Assumes nothing.
use mathlib.Core.Path.{◌≡◌, refl, sym, ap, ◌∙◌}
use mathlib.Core.List.{List}
use mathlib.Core.Logic.{◌↔◌}
use Prim.Native.Nat.{ℕ, ◌+◌, ◌*◌, ◌-◌, ◌≤◌, ◌<◌}
use native.Mathlib.Decide.{ℕ_discrete}
use native.Mathlib.Omega.{arith}
use lib.ListN.{length}
use Rattle.std.specs.Prelude.{Ok}
use Rattle.field_words.specs.Words.{AllCanonical}
use Rattle.numbers.specs.Numbers.{trace_word_batches}
use Rattle.refusals.proofs.Laws.{value_accepted, value_returned}
use Rattle.table.specs.Table.{IsTable}
use Rattle.hash.specs.Hash.{tap, output_at}
use Rattle.hash.proofs.Inputs.{output_zero}
use Rattle.trace.specs.Trace.{trace, row}
use Rattle.trace.specs.RowHelpers.{rows_before}
use Rattle.trace.proofs.WrittenHashes.{before_within}
use Rattle.check_trace.specs.Answers.{check_test, check_answer}
use Rattle.check_trace.proofs.Answers.{check_passes}
use Rattle.check_exact.proofs.ReadList.{row_of_trace}
use Rattle.check_exact.proofs.InputRows.{same_output, same_next_tap}
use Rattle.trace_rewrite.specs.Edit.{altered, first_touched}
use Rattle.trace_edit.specs.Answers.{edit_test, edit_answer}
use Rattle.trace_rewrite.proofs.Altered.{touched_is, length_altered, altered_canonical, tap_altered, row_before}
use Rattle.trace_edit.proofs.Answers.{same_test, edit_inputs}

pub accepts_exactly : (T t claim : List ℕ) (c n : ℕ) (new : List ℕ)
    → ((d : List ℕ) × (edit_answer T t claim c n new ≡ Ok d))
    ↔ (((m : ℕ) × (check_answer T t claim c ≡ Ok m))
    × (n ≤ 3 * trace_word_batches (length t)) × AllCanonical new)
unfolding edit_answer check_answer
accepts_exactly T t claim c n new = (
  λ s.
      let i = edit_inputs T t claim c n new (value_accepted (edit_test T t claim c n new) _ s.0 s.1).0 in
      let e = check_passes T t claim c (trace_word_batches (length t)) i.0 i.3 in
      ((_, sym (value_returned refl e refl)), i.1, i.2),
  λ s.
      let e = (value_accepted (check_test T t claim c) _ s.0.0 s.0.1).0 in
      (_, sym (value_returned refl (same_test T t claim c n new s.1 s.2 ∙ e) refl)),
)

module _ (T w : List ℕ) (k n : ℕ) (new : List ℕ) (table : IsTable T) (some : 1 ≤ k) (size : length w ≡ 12 * k + 4)
    (canonical : AllCanonical w) (there : n ≤ 3 * k) (four : length new ≡ 4) (words : AllCanonical new) where
  inside : 4 * n + 4 ≤ length w
  inside = omega arith

  -- ---- the altered list is one of 3k + 1 canonical taps
  altered_size : length (altered w n new) ≡ 12 * k + 4
  altered_size = length_altered w n new four inside ∙ size

  altered_words : AllCanonical (altered w n new)
  altered_words = altered_canonical w n new four inside canonical words

  -- ---- earlier rows keep their cells
  pub earlier_rows : (i : ℕ) → i < first_touched n → row (trace T (altered w n new) k) i ≡ row (trace T w k) i
  earlier_rows i l =
      let e = touched_is n in
      let few = before_within k (n - 1) (omega arith) in
      row_of_trace T (altered w n new) k altered_size altered_words i (omega arith)
      ∙ row_before w n new four inside T i (omega arith)
      ∙ sym (row_of_trace T w k size canonical i (omega arith))

  -- ---- the first row touched tells the new tap: it stays as it is only where the tap does
  pub row_tells_tap : row (trace T (altered w n new) k) (first_touched n) ≡ row (trace T w k) (first_touched n)
      → new ≡ tap w n
  row_tells_tap e = sym (tap_altered w n new four inside) ∙ go (ℕ_discrete n 0)
    where
      v : List ℕ
      v = altered w n new

      shown : row (trace T v k) (rows_before (n - 1)) ≡ row (trace T w k) (rows_before (n - 1))
      shown = ap (row (trace T v k)) (sym (touched_is n)) ∙ e ∙ ap (row (trace T w k)) (touched_is n)

      go : Dec (n ≡ 0) → tap v n ≡ tap w n
      go (yes z) =
          let x : n - 1 ≡ 0 = omega arith in
          ap (tap v) z
          ∙ sym (ap (output_at T v) x ∙ output_zero T v)
          ∙ same_output T v w k table altered_size altered_words size canonical (n - 1) (omega arith) shown
          ∙ ap (output_at T w) x
          ∙ output_zero T w
          ∙ ap (tap w) (sym z)
      go (no z) =
          let x : n - 1 + 1 ≡ n = omega arith in
          ap (tap v) (sym x)
          ∙ same_next_tap T v w k table altered_size altered_words size canonical (n - 1) (omega arith) shown
          ∙ ap (tap w) x
