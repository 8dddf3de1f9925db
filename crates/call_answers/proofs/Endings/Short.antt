-- A short file: word 0's 13 then 14, and element by element 12 where the input ends, 13, 14, 18, and 12 for bytes after
-- the last.
-- Assumes nothing.
use mathlib.Core.Path.{sym, subst}
use mathlib.Core.List.{List}
use Prim.Native.Nat.{ℕ, zero, suc, ◌+◌, ◌*◌, ◌<◌, ◌≤◌}
use native.Mathlib.Omega.{arith}
use lib.Dec.{eqb}
use lib.ListN.{length}
use Rattle.refusals.specs.declared.Refusal.{Refusal}
use Rattle.refusals.specs.declared.Refusal.TheVariants.{FileLength, WrongKind, WrongValue, LongElement}
use Rattle.refusals.proofs.Laws.{AnswerEnds, unless_ends, after_ends, refusal_ends}
use Rattle.board_short_read.specs.Reading.{next_word, short_test, shorts_test, ElementFault, no_first, first_kind}
use Rattle.board_short_read.specs.Reading.{no_second, second_kind, no_third, third_kind, too_large, needless}
use Rattle.board_short_read.proofs.Tests.{next_most, faulty}
use Rattle.board_short.proofs.Answers.{CountFault, kind, value, count_faulty}
use Rattle.board_short.specs.ShortBoard.{short_count_test, short_batches_in}

-- what is to be shown where a file is refused
pub record ShortCauses (Q : Refusal → Type 0) (file : List ℕ) : Type 0 where
  pub by_length : Q FileLength
  pub by_kind : (j : ℕ) → j < 36 * short_batches_in file + 25 → Q (WrongKind j)
  pub by_value : (j : ℕ) → j < 36 * short_batches_in file + 25 → Q (WrongValue j)
  pub by_long : (j : ℕ) → j < 36 * short_batches_in file + 25 → Q (LongElement j)

module _ (Q : Refusal → Type 0) (file : List ℕ) (causes : ShortCauses Q file) where
  by_fault : (j : ℕ) → j + 3 ≤ 36 * short_batches_in file + 25 → (r : Refusal) → ElementFault file j r → Q r
  by_fault j h r (no_first l e) = subst Q (sym e) causes.by_length
  by_fault j h r (first_kind l n m e) = subst Q (sym e) (causes.by_kind j (omega arith))
  by_fault j h r (no_second l a m e) = subst Q (sym e) causes.by_length
  by_fault j h r (second_kind l a n e) = subst Q (sym e) (causes.by_kind (j + 1) (omega arith))
  by_fault j h r (no_third l a b m e) = subst Q (sym e) causes.by_length
  by_fault j h r (third_kind l a b n e) = subst Q (sym e) (causes.by_kind (j + 2) (omega arith))
  by_fault j h r (too_large l a b c m e) = subst Q (sym e) (causes.by_value j (omega arith))
  by_fault j h r (needless l is m e) = subst Q (sym e) (causes.by_long j (omega arith))

  pub short_elements_end : (j n : ℕ) → j + 3 * n ≤ 36 * short_batches_in file + 25 → AnswerEnds Q (shorts_test file j n)
  unfolding shorts_test
  short_elements_end j zero h = unless_ends Q (eqb (4 * j) (length file)) FileLength _ (λ e. causes.by_length) λ e. tt
  short_elements_end j (suc n) h =
      after_ends Q (short_test file j) _
      (refusal_ends Q (short_test file j) (λ r e. by_fault j (omega arith) r (faulty file j r e))) λ e.
      short_elements_end (next_word file j) n (omega (arith, next_most file j))

  count_by_fault : (w : ℕ) (r : Refusal) → CountFault w r → Q r
  count_by_fault w r (kind n e) = subst Q (sym e) (causes.by_kind 0 (omega arith))
  count_by_fault w r (value z n e) = subst Q (sym e) (causes.by_value 0 (omega arith))

  pub short_count_ends : (w : ℕ) → AnswerEnds Q (short_count_test w)
  short_count_ends w = refusal_ends Q (short_count_test w) (λ r f. count_by_fault w r (count_faulty w r f))
