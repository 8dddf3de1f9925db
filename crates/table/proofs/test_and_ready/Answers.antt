-- `table::test_and_ready`: each return is the case of the definition that the tests before it left; M is made ready
-- where the table's words are canonical.
-- Assumes nothing.
use mathlib.Core.Path.{◌≡◌, ◌∙◌}
use mathlib.Core.Bool.{true, false}
use mathlib.Core.List.{List}
use Prim.Native.Nat.{ℕ}
use native.Mathlib.Omega.{arith}
use lib.ListN.{length}
use Rattle.field_words.specs.Words.{AllCanonical, first_bad, canonical_words}
use Rattle.field_words.proofs.Laws.{all_good, good_test, bad_test}
use Rattle.table.specs.Table.{table_words}
use Rattle.table.proofs.Tested.{kept_at_1, kept_at_2, made_ready}
use Rattle.table.proofs.Tested.{wrong_length, wrong_word, wrong_cell, accepted}
use Rattle.table.proofs.test_and_ready.Goals as goal

pub returns-then-table-ne-WORDS : goal.returns-then-table-ne-WORDS
returns-then-table-ne-WORDS c = (wrong_length _ c.if-table-ne-WORDS.true, kept_at_1 _ _ c.if-table-ne-WORDS.true)

other : (t : List ℕ) → length t ≡ table_words → canonical_words t ≡ false → first_bad t ≡ table_words → ⊥
other t size e all = omega (arith, bad_test t e)

pub returns-in-Some : goal.returns-in-Some
returns-in-Some c =
    let size = c.if-table-ne-WORDS.false in
    let bad = c.in-Some.ensures in
    let unlike = other _ size bad.0 in
    (wrong_word _ size _ bad.1 (λ e. unlike (omega (arith, bad.1))), kept_at_2 _ _ size unlike)

known : (t : List ℕ) → length t ≡ table_words → canonical_words t ≡ true
    → (length t ≡ table_words) × (first_bad t ≡ table_words) × AllCanonical t
known t size e = let good = good_test t e in (size, all_good t good ∙ size, good)

pub make_ready-requires : goal.make_ready-requires
make_ready-requires c =
    let k = known _ c.if-table-ne-WORDS.false c.in_default.ensures in
    (k.0, k.2, c.requires)

pub first_unlike-requires : goal.first_unlike-requires
first_unlike-requires c =
    let k = known _ c.if-table-ne-WORDS.false c.in_default.ensures in
    (k.0, k.2, c.make_ready.ensures)

pub returns-in-Some-first_unlike : goal.returns-in-Some-first_unlike
returns-in-Some-first_unlike c =
    let k = known _ c.if-table-ne-WORDS.false c.in_default.ensures in
    let cell = c.in-Some-first_unlike.ensures in (
      wrong_cell _ k.0 k.1 _ cell.0 (λ e. omega (arith, cell.1)),
      c.make_ready.ensures ∙ made_ready _ _ k.0 k.1,
    )

pub returns : goal.returns
returns c =
    let k = known _ c.if-table-ne-WORDS.false c.in_default.ensures in
    (accepted _ k.0 k.1 c.in_default-first_unlike.ensures, c.make_ready.ensures ∙ made_ready _ _ k.0 k.1)
