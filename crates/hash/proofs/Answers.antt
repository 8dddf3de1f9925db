-- What the tests of Hash say where they accept, and that they accept what passes each of them.
-- Assumes nothing.
use mathlib.Core.Path.{◌≡◌}
use mathlib.Core.List.{List}
use Prim.Native.Nat.{ℕ}
use Rattle.std.specs.Prelude.{Ok}
use Rattle.field_words.specs.Words.{AllCanonical}
use Rattle.field_words.proofs.Laws.{good_test, test_good}
use Rattle.refusals.proofs.Laws.{passed, both_accepted}
use Rattle.table.specs.Table.{IsTable, table_test}
use Rattle.table.proofs.Theorems.{test_sound, test_complete}
use Rattle.hash.specs.Answers.{hash_test}

pub record HashInputs (T words : List ℕ) : Type 0 where
  pub table : IsTable T
  pub canonical : AllCanonical words

pub hash_inputs : (T words : List ℕ) → hash_test T words ≡ Ok tt → HashInputs T words
unfolding hash_test
hash_inputs T words e =
    let a = both_accepted (table_test T) _ e in
    record { table = test_sound T a.0; canonical = good_test words (passed _ _ _ a.1).0 }

pub hash_passes : (T words : List ℕ) → HashInputs T words → hash_test T words ≡ Ok tt
unfolding hash_test
hash_passes T words h = rw (test_complete T h.table, test_good words h.canonical)
