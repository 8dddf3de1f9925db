-- What Edit tests and answers, and what it leaves in the lent trace (document 02, U1 and U6, and document 01, "What is
-- turned back", for the order of the refusals). T is the lent table, t the lent trace, c the number of batches that is
-- lent with the claim, n the lent tap number, new the new tap.
-- Assumes nothing.
use Rattle.std.specs.Prelude.{List, ℕ, ◌*◌, leb, length, Result}
use Rattle.field_words.specs.Words.{first_bad, canonical_words}
use Rattle.numbers.specs.Numbers.{trace_word_batches}
use Rattle.refusals.specs.declared.Refusal.TheVariants.{NoSuchTap, ClaimWord, TraceWord, TapWord}
use Rattle.refusals.specs.Answers.{Answer, unless, after, with_value, leaves}
use Rattle.hash.specs.Hash.{chain, first_taps}
use Rattle.trace.specs.Trace.{trace}
use Rattle.check_constraints.specs.Constraints.{constraint_test}
use Rattle.check_constraints.specs.ReadOff.{read_taps}
use Rattle.check_trace.specs.Answers.{opening_test}
use Rattle.trace_rewrite.specs.Edit.{altered}
use Rattle.refusals.specs.declared.Refusal.{Refusal}

-- 15; 9; 10; 6; 11
abbrev pub edit_trace_test : List ℕ → List ℕ → List ℕ → ℕ → ℕ → List ℕ → ℕ → Answer
edit_trace_test T t claim c n new k =
    unless (leb n (3 * k)) NoSuchTap
    (unless (canonical_words claim) (ClaimWord (first_bad claim))
    (unless (canonical_words t) (TraceWord (first_bad t))
    (unless (canonical_words new) (TapWord (first_bad new))
    (constraint_test T t claim c k))))

-- Edit: 1, 2, 4; 7; 17; 15; 9; 10; 6; 11
unfoldable pub edit_test : List ℕ → List ℕ → List ℕ → ℕ → ℕ → List ℕ → Answer
edit_test T t claim c n new =
    after (opening_test T t c) (edit_trace_test T t claim c n new (trace_word_batches (length t)))

-- the altered list: the taps that the trace holds, with tap n replaced
unfoldable pub altered_taps : List ℕ → List ℕ → ℕ → List ℕ → List ℕ
altered_taps T t n new = altered (read_taps T t (trace_word_batches (length t))) n new

-- the output of its first 3c + 1 taps is returned
unfoldable pub edit_answer : List ℕ → List ℕ → List ℕ → ℕ → ℕ → List ℕ → Result (List ℕ) Refusal
edit_answer T t claim c n new =
    with_value (edit_test T t claim c n new) (chain T (first_taps c (altered_taps T t n new)) c)

-- the trace of the altered list, or the lent one
unfoldable pub edit_leaves : List ℕ → List ℕ → List ℕ → ℕ → ℕ → List ℕ → List ℕ
edit_leaves T t claim c n new =
    leaves (edit_test T t claim c n new) (trace T (altered_taps T t n new) (trace_word_batches (length t))) t
