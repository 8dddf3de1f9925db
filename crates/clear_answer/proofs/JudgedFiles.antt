-- The answer once table and file are accepted: what is known of them, and what the check comes to.
-- Assumes nothing.
use mathlib.Core.Path.{◌≡◌, refl, ap, ◌∙◌}
use mathlib.Core.List.{List}
use mathlib.Core.Logic.{◌⊎◌, inl, inr}
use Prim.Native.Nat.{ℕ, ◌+◌, ◌*◌, ◌-◌, ◌≤◌}
use native.Mathlib.Omega.{arith}
use lib.ListN.{length}
use Rattle.std.specs.Prelude.{Result, Ok, Err}
use Rattle.field_words.specs.Words.{AllCanonical}
use Rattle.numbers.specs.Numbers.{IsPermitted}
use Rattle.refusals.specs.declared.Refusal.{Refusal}
use Rattle.refusals.specs.declared.Refusal.TheVariants.{Constraint}
use Rattle.table.specs.Table.{IsTable, Prepares}
use Rattle.hash.specs.Hash.{chain}
use Rattle.hash.proofs.Inputs.{output_tap}
use Rattle.trace.specs.Trace.{trace}
use Rattle.check_constraints.specs.Constraints.{tests, constraint_test}
use Rattle.check_constraints.proofs.TestCount.{length_tests}
use Rattle.board_words.proofs.Round.{length_elements}
use Rattle.board.specs.Board.{batches_in, claim_in, taps_in, unpack_test}
use Rattle.board.proofs.Answers.{batches_is, unpack_accepted, unpack_complete}
use Rattle.board.proofs.Round.{board_permitted, board_canonical, taps_length}
use Rattle.clear_answer.specs.declared.Report.{Report}
use Rattle.clear_answer.specs.Clearing.{table_bytes, longest, raw_in, file_in, checked_taps, cleared}
use Rattle.clear_answer.specs.Clearing.{unprepared, IsJudged}
use Rattle.clear_answer.proofs.BuiltTraces.{FirstUnlike, same_or_unlike, chains_accepted, unlike_refused}
use Rattle.clear_answer.proofs.Stages.{is_table}
use Rattle.refusals.specs.Answers.{Answer, after, with_value}

-- ---- what a check comes to
module _ (T w claim : List ℕ) (k : ℕ) where
  checked_accepted : 1 ≤ k → constraint_test T (trace T w k) claim k k ≡ Ok tt
      → checked_taps T w claim k ≡ Ok (record { batches = k; tests = 372 * k })
  unfolding checked_taps
  checked_accepted some e =
      ap (λ a. with_value a (record { batches = k; tests = length (tests k k) })) e
      ∙ ap (λ n. Ok (record { batches = k; tests = n })) (length_tests k k some (omega arith))

  checked_refused : (r : Refusal) → constraint_test T (trace T w k) claim k k ≡ Err r
      → checked_taps T w claim k ≡ Err r
  unfolding checked_taps
  checked_refused r e = ap (λ a. with_value a (record { batches = k; tests = length (tests k k) })) e

-- where table and file are accepted, the answer is that of the check
pub judged_answer : (input T : List ℕ) (k : ℕ) → IsJudged input T k
    → let file = file_in input in cleared T file ≡ checked_taps T (taps_in file) (claim_in file) k
unfolding cleared
judged_answer input T k h =
    let file = file_in input in
    let b = batches_is file k h.board in
    ap (λ n. after (unpack_test file (12 * n + 4)) (checked_taps T (taps_in file) (claim_in file) n)) b
    ∙ ap (λ t. after t (checked_taps T (taps_in file) (claim_in file) k)) (unpack_complete file k h.board)

-- what is known of them then
module _ (input T : List ℕ) (k : ℕ) (h : IsJudged input T k) where
  file_k : batches_in (file_in input) ≡ k
  file_k = batches_is (file_in input) k h.board

  -- the file's taps and claim
  abbrev w : List ℕ
  w = taps_in (file_in input)

  abbrev claim : List ℕ
  claim = claim_in (file_in input)

  pub judged_table : IsTable T
  judged_table = is_table input unprepared T (Ok tt) h.low h.high refl h.prepared refl

  judged_permitted : IsPermitted k
  judged_permitted = board_permitted (file_in input) k h.board

  judged_size : length w ≡ 12 * k + 4
  judged_size = taps_length (file_in input) ∙ ap (λ n. 12 * n + 4) file_k

  judged_canonical : AllCanonical w
  judged_canonical = (board_canonical (file_in input) (rw file_k h.board)).1

  four_words : length claim ≡ 4
  unfolding claim_in
  four_words = length_elements (file_in input) 1 4

  abbrev answered : Result Report Refusal
  answered = cleared T (file_in input)

  -- the taps chain to the claim, or come to an output that is unlike it in some word first
  pub chains_or_unlike : (chain T w k ≡ claim) ⊎ ((j : ℕ) × FirstUnlike (chain T w k) claim 4 j)
  unfolding chain
  chains_or_unlike =
      let output = output_tap T w judged_canonical (omega (arith, judged_size)) (3 * k) in
      same_or_unlike (chain T w k) claim 4 output.size four_words

  pub chains_answer : chain T w k ≡ claim → answered ≡ Ok (record { batches = k; tests = 372 * k })
  chains_answer e =
      judged_answer input T k h
      ∙ checked_accepted T w claim k judged_permitted.low
      (chains_accepted T w k judged_table judged_permitted judged_size judged_canonical claim e)

  pub unlike_answer : (j : ℕ) → FirstUnlike (chain T w k) claim 4 j
      → answered ≡ Err (Constraint (record { 0 = 32 * k - 1 }) (49 + j) (372 * k - 3 + j))
  unlike_answer j u =
      judged_answer input T k h
      ∙ checked_refused T w claim k _
      (unlike_refused T w k judged_table judged_permitted judged_size judged_canonical claim j u)

-- ---- the answer once the table is prepared
module _ (input T : List ℕ) where
  abbrev file : List ℕ
  file = file_in input

  abbrev file_test : Answer
  file_test = unpack_test file (12 * batches_in file + 4)

  pub file_refused_answer : (r : Refusal) → file_test ≡ Err r → cleared T file ≡ Err r
  unfolding cleared
  file_refused_answer r e = rw e

  -- the file's refusal, or a file that is accepted
  pub judged_cases : table_bytes ≤ length input → length input ≤ longest
      → Prepares (raw_in input) unprepared (Ok tt) T
      → ((r : Refusal) × (file_test ≡ Err r)) ⊎ IsJudged input T (batches_in file)
  judged_cases low high p = go file_test refl
    where
      go : (t : Answer) → file_test ≡ t
          → ((r : Refusal) × (file_test ≡ Err r)) ⊎ IsJudged input T (batches_in file)
      go (Err r) e = inl (r, e)
      go (Ok _) e = inr (record {
        low = low;
        high = high;
        prepared = p;
        board = (unpack_accepted file (12 * batches_in file + 4) e).0;
      })
