-- Check over what no earlier refusal turns back: its answer is that of the walk.
-- Assumes nothing.
use mathlib.Core.Path.{◌≡◌, ap, ap₂}
use mathlib.Core.List.{List}
use Prim.Native.Nat.{ℕ, ◌*◌, ◌≤◌}
use lib.ListN.{length}
use Rattle.field_words.specs.Words.{AllCanonical}
use Rattle.numbers.specs.Numbers.{IsPermitted, most_batches}
use Rattle.numbers.proofs.Laws.{trace_length_complete}
use Rattle.refusals.specs.Answers.{with_value}
use Rattle.table.specs.Table.{IsTable}
use Rattle.check_constraints.specs.Constraints.{tests, constraint_test}
use Rattle.check_trace.specs.Answers.{check_answer}
use Rattle.check_trace.proofs.Answers.{CheckInputs, check_reaches}

module _ (T t claim : List ℕ) (c k : ℕ) (table : IsTable T) (permitted : IsPermitted k) (low : 1 ≤ c) (high : c ≤ k)
    (size : length t ≡ 384 * k) (canonical : AllCanonical t) (claim_canonical : AllCanonical claim) where
  pub check_verdict : check_answer T t claim c ≡ with_value (constraint_test T t claim c k) (length (tests k c))
  unfolding check_answer
  check_verdict =
      let inputs : CheckInputs T t claim c k = record {
        opening = record { table = table; permitted = permitted; size = size; low = low; high = high };
        claim_canonical = claim_canonical;
        canonical = canonical;
      } in
      ap₂ with_value (check_reaches T t claim c k inputs)
      (ap (λ n. length (tests n c)) (trace_length_complete most_batches (length t) k size permitted).1)
