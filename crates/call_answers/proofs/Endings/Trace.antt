-- A trace and a claim that are lent: the table's refusals, 7, 17, with which each operation on them begins; 9 and 10;
-- and 11, with which it ends.
-- Assumes nothing.
use mathlib.Core.Path.{◌≡◌, subst}
use mathlib.Core.Bool.{false}
use mathlib.Core.List.{List}
use mathlib.Core.Logic.{◌⊎◌}
use Prim.Native.Nat.{ℕ, ◌*◌, ◌<◌}
use native.Mathlib.Omega.{arith}
use lib.ListN.{length}
use Rattle.std.specs.Prelude.{Ok}
use Rattle.field_words.specs.Words.{first_bad, canonical_words}
use Rattle.field_words.proofs.Laws.{bad_test, good_test}
use Rattle.numbers.specs.Numbers.{IsPermitted, most_batches, is_trace_length, trace_word_batches}
use Rattle.numbers.proofs.Laws.{trace_length_sound}
use Rattle.refusals.specs.declared.Refusal.{Refusal}
use Rattle.refusals.specs.declared.Refusal.TheVariants.{TraceLength, ClaimWord, TraceWord, Constraint, ClaimBatches}
use Rattle.refusals.specs.Answers.{Answer, unless, after}
use Rattle.refusals.proofs.Laws.{AnswerEnds, unless_ends, after_ends}
use Rattle.table.specs.Table.{table_test}
use Rattle.check_constraints.specs.Constraints.{between, tests, walk, constraint_test}
use Rattle.check_constraints.specs.FirstFailing.{IsFirstFailing}
use Rattle.check_constraints.proofs.Families.{outside}
use Rattle.check_constraints.proofs.WalkLaws.{Ends, passes, stops, walk_ends}
use Rattle.check_trace.specs.Answers.{opening_test, trace_test}
use Rattle.check_trace.proofs.Answers.{Opened, CheckInputs, opened}
use Rattle.call_answers.proofs.Endings.Table.{TableCauses, table_ends}

-- what is to be shown of each but 11. Of 7 it may use that the length is wrong, and of 17 all that was tested before
pub record TraceCauses (Q : Refusal → Type 0) (T t claim : List ℕ) (c : ℕ) : Type 0 where
  pub of_table : TableCauses Q
  pub by_length : is_trace_length most_batches (length t) ≡ false → Q TraceLength
  pub by_batches : (k : ℕ) → table_test T ≡ Ok tt → IsPermitted k → length t ≡ 384 * k → (c ≡ 0) ⊎ (k < c)
      → Q ClaimBatches
  pub by_claim : (i : ℕ) → i < length claim → Q (ClaimWord i)
  pub by_word : (k : ℕ) → length t ≡ 384 * k → IsPermitted k → (i : ℕ) → i < length t → Q (TraceWord i)

-- and of 11
abbrev pub Eleven : (Q : Refusal → Type 0) → List ℕ → List ℕ → List ℕ → ℕ → Type 0
Eleven Q T t claim c =
    (i q n : ℕ) → IsFirstFailing T t claim (tests (trace_word_batches (length t)) c) i q n
    → Q (Constraint (record { 0 = i }) q n)

module _ (Q : Refusal → Type 0) (T t claim : List ℕ) (c : ℕ) (causes : TraceCauses Q T t claim c) where
  -- the batches of a trace whose length passes
  abbrev k : ℕ
  k = trace_word_batches (length t)

  pub constraints_end : Eleven Q T t claim c → AnswerEnds Q (constraint_test T t claim c k)
  unfolding constraint_test
  constraints_end q11 = go (walk T t claim (tests k c) 0) (walk_ends T t claim (tests k c) 0)
    where
      go : (a : Answer) → Ends T t claim (tests k c) 0 a → AnswerEnds Q a
      go a (passes h) = tt
      go a (stops i q place f m e) =
          let n : place ≡ m = omega arith in
          subst (λ x. Q (Constraint (record { 0 = i }) q x)) n (q11 i q place f)

  opening_ends : AnswerEnds Q (opening_test T t c)
  unfolding opening_test
  opening_ends =
      after_ends Q (table_test T) _ (table_ends Q causes.of_table T) λ e.
      unless_ends Q (is_trace_length most_batches (length t)) TraceLength _ causes.by_length λ f.
      let s = trace_length_sound most_batches (length t) f in
      unless_ends Q (between 1 k c) ClaimBatches (Ok tt)
      (λ g. causes.by_batches k e s.1 s.0 (outside k c g)) λ g. tt

  pub opened_ends : (rest : Answer) → (Opened T t c k → AnswerEnds Q rest)
      → AnswerEnds Q (after (opening_test T t c) rest)
  opened_ends rest n = after_ends Q (opening_test T t c) rest opening_ends (λ e. n (opened T t c e))

  pub judged_end : Opened T t c k → (rest : Answer) → (CheckInputs T t claim c k → AnswerEnds Q rest)
      → AnswerEnds Q (unless (canonical_words claim) (ClaimWord (first_bad claim))
      (unless (canonical_words t) (TraceWord (first_bad t)) rest))
  judged_end o rest r =
      unless_ends Q (canonical_words claim) (ClaimWord (first_bad claim)) _
      (λ e. causes.by_claim (first_bad claim) (bad_test claim e)) λ e.
      unless_ends Q (canonical_words t) (TraceWord (first_bad t)) rest
      (λ f. causes.by_word k o.size o.permitted (first_bad t) (bad_test t f)) λ f.
      r (record { opening = o; claim_canonical = good_test claim e; canonical = good_test t f })

  pub trace_ends : Opened T t c k → (CheckInputs T t claim c k → Eleven Q T t claim c)
      → AnswerEnds Q (trace_test T t claim c k)
  unfolding trace_test
  trace_ends o q11 = judged_end o _ λ i. constraints_end (q11 i)
