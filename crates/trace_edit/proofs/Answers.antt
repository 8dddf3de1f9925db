-- What the tests of Edit say where they accept, that they are Check's where tap number and new tap are in range, and
-- that an accepted trace can be rewritten.
-- Assumes nothing.
use mathlib.Core.Path.{◌≡◌}
use mathlib.Core.List.{List}
use Prim.Native.Nat.{ℕ, ◌*◌, ◌≤◌}
use native.Mathlib.Omega.{arith}
use borrow.Author.Tests.{le-leb, leb-true}
use lib.Dec.{leb}
use lib.ListN.{length}
use Rattle.std.specs.Prelude.{Ok}
use Rattle.field_words.specs.Words.{AllCanonical, canonical_words, first_bad}
use Rattle.field_words.proofs.Laws.{test_good, good_test}
use Rattle.numbers.specs.Numbers.{trace_word_batches}
use Rattle.refusals.specs.declared.Refusal.TheVariants.{NoSuchTap, ClaimWord, TraceWord, TapWord}
use Rattle.refusals.proofs.Laws.{passed, both_accepted}
use Rattle.check_constraints.specs.Constraints.{constraint_test}
use Rattle.check_trace.specs.Answers.{opening_test, trace_test, check_test}
use Rattle.check_trace.proofs.Answers.{CheckInputs, opened}
use Rattle.check_exact.proofs.Exactness.{reads_that_list}
use Rattle.trace_rewrite.specs.EditHelpers.{Rewritable}
use Rattle.trace_edit.specs.Answers.{edit_test}

-- ---- what all tests say
module _ (T t claim : List ℕ) (c n : ℕ) (new : List ℕ) where
  -- for a tap that is there, and canonical words in its place, the tests are those of Check
  pub same_test : n ≤ 3 * trace_word_batches (length t) → AllCanonical new
      → edit_test T t claim c n new ≡ check_test T t claim c
  unfolding edit_test check_test trace_test
  same_test h a = rw (le-leb n (3 * trace_word_batches (length t)) h, test_good new a)

  pub edit_inputs : edit_test T t claim c n new ≡ Ok tt → let k = trace_word_batches (length t) in
      CheckInputs T t claim c k × (n ≤ 3 * k) × AllCanonical new × (constraint_test T t claim c k ≡ Ok tt)
  unfolding edit_test
  edit_inputs e =
      let a = both_accepted (opening_test T t c) _ e in
      let b = passed (leb n (3 * trace_word_batches (length t))) NoSuchTap _ a.1 in
      let d = passed (canonical_words claim) (ClaimWord (first_bad claim)) _ b.1 in
      let f = passed (canonical_words t) (TraceWord (first_bad t)) _ d.1 in
      let g = passed (canonical_words new) (TapWord (first_bad new)) _ f.1 in (
        record {
          opening = opened T t c a.0;
          claim_canonical = good_test claim d.0;
          canonical = good_test t f.0;
        },
        leb-true n (3 * trace_word_batches (length t)) b.0,
        good_test new g.0,
        g.1,
      )

  -- an accepted trace can be rewritten: it is the trace of the list that is read off it
  pub rewritable : length claim ≡ 4 → edit_test T t claim c n new ≡ Ok tt
      → Rewritable T t (trace_word_batches (length t)) n new
  rewritable four e =
      let i = edit_inputs e in
      let o = i.0.opening in
      let list = reads_that_list T t claim c (trace_word_batches (length t)) o.table o.permitted o.low o.high
      o.size i.0.canonical four i.3 in
      record {
        table = o.table;
        canonical = i.0.canonical;
        size = o.size;
        some = o.permitted.low;
        few = omega (arith, o.permitted.high);
        taps = list.canonical;
        traced = list.traced;
        inside = i.1;
        in_range = i.2;
      }
