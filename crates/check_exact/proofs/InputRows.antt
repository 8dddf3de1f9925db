-- The first row that the input of hash h shows in holds all of it: two lists of canonical taps whose traces have that
-- row in common have the same output before hash h, and the same next tap.
-- Assumes nothing.
use mathlib.Core.Path.{◌≡◌, sym, ap, ◌∙◌}
use mathlib.Core.List.{List}
use Prim.Native.Nat.{ℕ, ◌+◌, ◌*◌, ◌/◌, ◌%◌, ◌<◌}
use native.Mathlib.Decide.{ℕ_discrete}
use native.Mathlib.Omega.{arith}
use borrow.Author.Tests.{eq-eqb, ne_eqb}
use lib.ListN.{length}
use Rattle.lists.specs.Lists.{cell}
use Rattle.field_words.specs.Words.{AllCanonical}
use Rattle.numbers.specs.Numbers.{first_row}
use Rattle.table.specs.Table.{IsTable, initial_constant}
use Rattle.hash.specs.Hash.{tap, output_at}
use Rattle.hash.proofs.States.{same_cells}
use Rattle.trace.specs.Trace.{hash_input, trace, row}
use Rattle.trace.specs.RowHelpers.{rows_before}
use Rattle.trace.proofs.TraceCells.{output_is_tap, next_tap_is_tap, input_output, input_next_tap}
use Rattle.check_constraints.specs.Constraints.{round, minus, back_step, back}
use Rattle.check_constraints.specs.ReadOff.{read_input}
use Rattle.check_exact.proofs.Built.{input_back}

-- what is read of hash h is read of that row
pub same_read : (T s t : List ℕ) (h : ℕ) → row s (rows_before h) ≡ row t (rows_before h)
    → read_input T s h ≡ read_input T t h
unfolding read_input back rows_before
same_read T s t h e = go (ℕ_discrete (h % 3) 0)
  where
    go : Dec (h % 3 ≡ 0) → read_input T s h ≡ read_input T t h
    go (yes z) =
        let x : rows_before h ≡ 32 * (h / 3) = omega arith in
        rw (eq-eqb (h % 3) 0 z) (ap (row s) (sym x) ∙ e ∙ ap (row t) x)
    go (no z) =
        let x : rows_before h ≡ first_row h = omega arith in
        rw (ne_eqb (h % 3) 0 z)
        (ap (λ r. minus (back_step T (round (first_row h)) r) (initial_constant T))
        (ap (row s) (sym x) ∙ e ∙ ap (row t) x))

module _ (T w v : List ℕ) (k : ℕ) (accepted : IsTable T) (size : length w ≡ 12 * k + 4) (canonical : AllCanonical w)
    (size' : length v ≡ 12 * k + 4) (canonical' : AllCanonical v) (h : ℕ) (l : h < 3 * k)
    (e : row (trace T w k) (rows_before h) ≡ row (trace T v k) (rows_before h)) where
  same_input : hash_input T w h ≡ hash_input T v h
  same_input =
      sym (input_back T w k accepted size canonical h l)
      ∙ same_read T (trace T w k) (trace T v k) h e
      ∙ input_back T v k accepted size' canonical' h l

  pub same_output : output_at T w h ≡ output_at T v h
  same_output =
      same_cells 4 (output_at T w h) (output_at T v h) (output_is_tap T w k size canonical h).size
      (output_is_tap T v k size' canonical' h).size
      (λ j m.
      sym (input_output T w k size canonical h j l m)
      ∙ ap (λ s. cell s j) same_input
      ∙ input_output T v k size' canonical' h j l m)

  pub same_next_tap : tap w (h + 1) ≡ tap v (h + 1)
  same_next_tap =
      same_cells 4 (tap w (h + 1)) (tap v (h + 1)) (next_tap_is_tap T w k size canonical h l).size
      (next_tap_is_tap T v k size' canonical' h l).size
      (λ j m.
      sym (input_next_tap T w k size canonical h j l m)
      ∙ ap (λ s. cell s (4 + j)) same_input
      ∙ input_next_tap T v k size' canonical' h j l m)
