-- Read-off into 12k + 4 words answers what Check answers, whatever the table, the trace, the claim and
-- c are.
-- Assumes nothing.
use mathlib.Core.Path.{◌≡◌, refl, ap, ◌∙◌}
use mathlib.Core.List.{List}
use Prim.Native.Nat.{ℕ, ◌+◌, ◌*◌, ◌/◌}
use native.Mathlib.Omega.{arith}
use lib.ListN.{length}
use Rattle.check_trace.specs.Answers.{check_answer}
use Rattle.trace_read_off.specs.Answers.{read_off_answer}
use Rattle.trace_read_off.proofs.Answers.{same_test}

module _ (T t claim : List ℕ) (c : ℕ) where
  pub same_answer : read_off_answer T t claim c (12 * (length t / 384) + 4) ≡ check_answer T t claim c
  unfolding read_off_answer check_answer
  same_answer = rw (same_test T t claim c (12 * (length t / 384) + 4) refl)

  pub same_for : (k : ℕ) → length t ≡ 384 * k → read_off_answer T t claim c (12 * k + 4) ≡ check_answer T t claim c
  same_for k size =
      let z : 12 * k + 4 ≡ 12 * (length t / 384) + 4 = omega arith in
      ap (read_off_answer T t claim c) z ∙ same_answer
