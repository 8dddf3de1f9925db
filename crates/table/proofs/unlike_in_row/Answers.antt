-- `table::unlike_in_row`: what the search found is the first column unlike the identity's.
-- Assumes nothing.
use Rattle.std.proofs.Common.{◌≡◌, ◌≢◌, ◌+◌, ◌*◌, ◌<◌, ◌≤◌, ℕ, List, Option, Some, None, MatchOption, eqb, sym, ap}
use Rattle.std.proofs.Common.{arith, rules, tests}
use Rattle.std.specs.Prelude.{not}
use borrow.Author.Tests.{eq-eqb, ne_eqb}
use Rattle.lists.specs.Lists.{choose, cell}
use Rattle.lists.proofs.First.{first_none, found_at}
use Rattle.field.specs.MontgomeryHelpers.{unit_square}
use Rattle.std.proofs.lemmas.Iterator.{first_from_Range}
use Rattle.table.specs.ReadyHelpers.{unlike_in_row}
use Rattle.table.proofs.unlike_in_row.Goals as goal

module _ (s : List ℕ) (i : ℕ) where
  abbrev Unlike : ℕ → Type 0
  Unlike k = cell s (12 * k + i) ≢ choose (eqb i k) unit_square 0

  abbrev Like : ℕ → Type 0
  Like k = cell s (12 * k + i) ≡ choose (eqb i k) unit_square 0

  searched : (r : Option ℕ)
      → MatchOption r ((k : ℕ) → 0 ≤ k → k < 12 → Like k)
      (λ k. (0 ≤ k) × (k < 12) × Unlike k × ((d : ℕ) → 0 ≤ d → d < k → Like d))
      → MatchOption r (unlike_in_row s i ≡ 12) (λ k. (k ≡ unlike_in_row s i) × (k < 12))
  unfolding unlike_in_row
  searched None like = sym (first_none 12 _ (λ k h. ap not (eq-eqb _ _ (like k (omega arith) h))))
  searched (Some k) found = (
    found_at 12 _ k found.1 (λ d h. ap not (eq-eqb _ _ (found.3 d (omega arith) h))) (ap not (ne_eqb _ _ found.2)),
    found.1,
  )

pub returns : goal.returns
returns c =
    searched c.args.product.now c.args.row c.find.result
    (first_from_Range _ _ _ _ (Unlike c.args.product.now c.args.row) (Like c.args.product.now c.args.row)
    c.find.ensures.ran (λ x q k. search (rules, tests)) (λ x q k. search (rules, tests)))
