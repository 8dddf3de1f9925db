-- What the tests of Chain say where they accept, that they accept what passes each of them, and the output that a state
-- begins with.
-- Assumes nothing.
use mathlib.Core.Path.{◌≡◌, refl}
use mathlib.Core.List.{List, [], ◌∷◌}
use Prim.Native.Nat.{ℕ, ◌+◌, ◌*◌, ◌≤◌}
use native.Mathlib.Omega.{arith}
use lib.ListN.{length, take}
use Rattle.std.specs.Prelude.{Ok}
use Rattle.lists.specs.Lists.{cell}
use Rattle.field_words.specs.Words.{AllCanonical}
use Rattle.field_words.proofs.Laws.{good_test, test_good}
use Rattle.numbers.specs.Numbers.{IsPermitted, most_batches, tap_word_batches}
use Rattle.numbers.proofs.Laws.{tap_length_sound, tap_length_complete}
use Rattle.refusals.proofs.Laws.{passed, both_accepted}
use Rattle.table.specs.Table.{IsTable, table_test}
use Rattle.table.proofs.Theorems.{test_sound, test_complete}
use Rattle.hash_chain.specs.Answers.{chain_test}

pub record ChainInputs (T w : List ℕ) (k : ℕ) : Type 0 where
  pub table : IsTable T
  pub permitted : IsPermitted k
  pub size : length w ≡ 12 * k + 4
  pub canonical : AllCanonical w

pub chain_inputs : (T w : List ℕ) → chain_test T w ≡ Ok tt → ChainInputs T w (tap_word_batches (length w))
unfolding chain_test
chain_inputs T w e =
    let a = both_accepted (table_test T) _ e in
    let b = passed _ _ _ a.1 in
    let s = tap_length_sound most_batches (length w) b.0 in
    record {
      table = test_sound T a.0;
      permitted = s.1;
      size = s.0;
      canonical = good_test w (passed _ _ _ b.1).0;
    }

pub chain_passes : (T w : List ℕ) (k : ℕ) → ChainInputs T w k → chain_test T w ≡ Ok tt
unfolding chain_test
chain_passes T w k h = rw (
  test_complete T h.table,
  (tap_length_complete most_batches (length w) k h.size h.permitted).0,
  test_good w h.canonical,
)

-- ---- the output that a state begins with
pub four_cells : (s : List ℕ) → 4 ≤ length s → cell s 0 ∷ cell s 1 ∷ cell s 2 ∷ cell s 3 ∷ [] ≡ take 4 s
four_cells [] h = absurd (omega arith)
four_cells (a ∷ []) h = absurd (omega arith)
four_cells (a ∷ b ∷ []) h = absurd (omega arith)
four_cells (a ∷ b ∷ c ∷ []) h = absurd (omega arith)
four_cells (a ∷ b ∷ c ∷ d ∷ s) h = refl
