-- What Build's tests say where they accept, and that they accept what passes each of them.
-- Assumes nothing.
use mathlib.Core.Path.{◌≡◌, sym, ap, ◌∙◌}
use mathlib.Core.List.{List}
use Prim.Native.Nat.{ℕ, ◌+◌, ◌*◌}
use borrow.Author.Tests.{eqb-true, eq-eqb}
use lib.ListN.{length}
use Rattle.std.specs.Prelude.{Ok}
use Rattle.field_words.specs.Words.{AllCanonical}
use Rattle.field_words.proofs.Laws.{good_test, test_good}
use Rattle.numbers.specs.Numbers.{IsPermitted, most_batches, tap_word_batches}
use Rattle.numbers.proofs.Laws.{tap_length_sound, tap_length_complete}
use Rattle.refusals.proofs.Laws.{passed, both_accepted}
use Rattle.table.specs.Table.{IsTable, table_test}
use Rattle.table.proofs.Theorems.{test_sound, test_complete}
use Rattle.trace.specs.Answers.{build_test}

pub record BuildInputs (T w : List ℕ) (size k : ℕ) : Type 0 where
  pub table : IsTable T
  pub permitted : IsPermitted k
  pub taps : length w ≡ 12 * k + 4
  pub room : size ≡ 384 * k
  pub canonical : AllCanonical w

pub build_inputs : (T w : List ℕ) (size : ℕ) → build_test T w size ≡ Ok tt
    → BuildInputs T w size (tap_word_batches (length w))
unfolding build_test
build_inputs T w size e =
    let a = both_accepted (table_test T) _ e in
    let b = passed _ _ _ a.1 in
    let c = passed _ _ _ b.1 in
    let s = tap_length_sound most_batches (length w) b.0 in
    record {
      table = test_sound T a.0;
      permitted = s.1;
      taps = s.0;
      room = eqb-true _ _ c.0;
      canonical = good_test w (passed _ _ _ c.1).0;
    }

pub build_passes : (T w : List ℕ) (size k : ℕ) → BuildInputs T w size k → build_test T w size ≡ Ok tt
unfolding build_test
build_passes T w size k h =
    let l = tap_length_complete most_batches (length w) k h.taps h.permitted in
    rw (
      test_complete T h.table,
      l.0,
      eq-eqb _ _ (h.room ∙ ap (λ n. 384 * n) (sym l.1)),
      test_good w h.canonical,
    )
