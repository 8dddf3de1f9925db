-- The starred known days hold: by computing, but for the one that speaks of every first tap.
-- The table test is not computed again for each of them.
-- Assumes nothing.
use mathlib.Core.Path.{◌≡◌, refl, ap, ap₂, ◌∙◌}
use mathlib.Core.List.{List, [], ◌∷◌, ◌++◌}
use Prim.Native.Nat.{ℕ, zero, suc}
use native.Mathlib.Omega.{arith}
use lib.Count.{ones}
use lib.ListN.{length, take, drop, replicate}
use lib.Seq.{take_at, drop_at}
use Rattle.lists.specs.Lists.{tab, sum, first}
use Rattle.field_words.specs.Words.{AllCanonical, first_bad, canonical_words}
use Rattle.field_words.proofs.Laws.{append_canonical}
use Rattle.field.specs.Field.{halving, power, root}
use Rattle.numbers.specs.Numbers.{most_batches, is_tap_length, tap_word_batches, is_trace_length, trace_word_batches}
use Rattle.matrix.specs.Matrix.{times_column, times}
use Rattle.refusals.specs.Answers.{Answer, unless, after, with_value, leaves}
use Rattle.refusals.specs.declared.Refusal.TheVariants.{TapLength, TapWord, TraceLength, ClaimWord, TraceWord}
use Rattle.refusals.specs.declared.Refusal.TheVariants.{ClaimBatches}
use Rattle.refusals.proofs.Laws.{value_accepted}
use Rattle.table.specs.Table.{matrix_of, inverse_of, constant, initial_constant, first_step_constant}
use Rattle.table.specs.Table.{second_step_constant}
use Rattle.table.specs.Table.{table_test}
use Rattle.table.proofs.Theorems.{test_sound}
use Rattle.hash.specs.Hash.{roots, cubes, plus, mix, first_step, second_step, state_at, final_state, input, hash, tap}
use Rattle.hash.specs.Hash.{output_at, chain}
use Rattle.hash.specs.Answers.{hash_test, hash_answer}
use Rattle.hash.proofs.Answers.{hash_passes}
use Rattle.hash.proofs.Inputs.{IsTap}
use Rattle.hash_chain.specs.Answers.{chain_test, chain_answer}
use Rattle.trace.specs.Trace.{row}
use Rattle.check_constraints.specs.Constraints.{plus_first, forward, minus, back_step, back, families, of_family}
use Rattle.check_constraints.specs.Constraints.{applies, holds}
use Rattle.check_constraints.specs.Constraints.{between, row_tests, tests_from, tests, walk, constraint_test}
use Rattle.check_constraints.specs.FirstFailing.{place_of}
use Rattle.check_constraints.specs.ReadOff.{read_input, read_word, read_taps}
use Rattle.check_trace.specs.Answers.{opening_test, trace_test, check_test, check_answer}
use Rattle.trace_read_off.specs.Answers.{read_off_test, read_off_answer, read_off_leaves}
use Rattle.trace_read_off.proofs.Theorems.{same_for}
use Rattle.known_days.specs.Days.{shifted, Z, A, S, zero_trace, with_one, tapped, four_zeros, KnownDays}
use Rattle.known_days.proofs.Shift.{final_turned}
use Rattle.known_days.proofs.Tables.{accepted_Z, accepted_A, accepted_S}
use Rattle.std.specs.Prelude.{Result, Ok}
use Rattle.refusals.specs.declared.Refusal.{Refusal}

-- ---- what is answered once the table is accepted
module _ (T : List ℕ) (table : table_test T ≡ Ok tt) where
  accepted : (rest : Answer) → after (table_test T) rest ≡ rest
  accepted rest = ap (λ a. after a rest) table

  hashed : (words : List ℕ) {a : Result (List ℕ) Refusal}
      → with_value (unless (canonical_words words) (TapWord (first_bad words)) (Ok tt))
      (final_state T (input (take 4 words) (drop 4 words))) ≡ a
      → hash_answer T words ≡ a
  unfolding hash_test hash_answer
  hashed words e =
      ap (λ t. with_value t (final_state T (input (take 4 words) (drop 4 words)))) (accepted _) ∙ e

  chained : (w : List ℕ) {a : Result (List ℕ) Refusal}
      → with_value
      (unless (is_tap_length most_batches (length w)) TapLength
      (unless (canonical_words w) (TapWord (first_bad w)) (Ok tt))) (chain T w (tap_word_batches (length w))) ≡ a
      → chain_answer T w ≡ a
  unfolding chain_test chain_answer
  chained w e = ap (λ t. with_value t (chain T w (tap_word_batches (length w)))) (accepted _) ∙ e

  judges : (t claim : List ℕ) (c : ℕ) {a : Result ℕ Refusal} → let k = trace_word_batches (length t) in
      with_value
      (after
      (unless (is_trace_length most_batches (length t)) TraceLength
      (unless (between 1 k c) ClaimBatches (Ok tt)))
      (unless (canonical_words claim) (ClaimWord (first_bad claim))
      (unless (canonical_words t) (TraceWord (first_bad t))
      (constraint_test T t claim c k))))
      (length (tests k c)) ≡ a → check_answer T t claim c ≡ a
  unfolding opening_test trace_test check_test check_answer
  judges t claim c e =
      let k : ℕ = trace_word_batches (length t) in
      ap (λ x. with_value (after x (trace_test T t claim c k)) (length (tests k c))) (accepted _) ∙ e

-- ---- S: the second tap comes back, then four zeros and the first, whatever it is
abbrev second : List ℕ
second = 5 ∷ 6 ∷ 7 ∷ 9 ∷ []

small : AllCanonical second
small zero h = omega arith
small (suc zero) h = omega arith
small (suc (suc zero)) h = omega arith
small (suc (suc (suc zero))) h = omega arith
small (suc (suc (suc (suc i)))) h = absurd (omega arith)

hash_S : (a : List ℕ) → length a ≡ 4 → AllCanonical a
    → hash_answer S (a ++ second) ≡ Ok (second ++ four_zeros ++ a)
unfolding hash_answer four_zeros
hash_S a size h =
    ap (λ t. with_value t (final_state S (input (take 4 w) (drop 4 w))))
    (hash_passes S w (record { table = test_sound S accepted_S; canonical = append_canonical a second h small }))
    ∙ ap₂ (λ x y. Ok (final_state S (input x y))) (take_at a second 4 size) (drop_at a second 4 size)
    ∙ ap Ok (final_turned a second first_tap second_tap)
  where
    w : List ℕ
    w = a ++ second

    first_tap : IsTap a
    first_tap = record { size = size; canonical = h }

    second_tap : IsTap second
    second_tap = record { size = refl; canonical = small }

-- ---- the tapped trace
tapped_accepted : check_answer Z tapped four_zeros 1 ≡ Ok 372
unfolding ones tab sum first first_bad times_column times matrix_of inverse_of constant initial_constant first_step_constant
    second_step_constant cubes plus mix second_step row plus_first forward minus back_step back families of_family applies
    holds row_tests tests_from tests walk constraint_test shifted Z tapped four_zeros
tapped_accepted = judges Z accepted_Z tapped four_zeros 1 refl

tapped_read_off : read_off_answer Z tapped four_zeros 1 16 ≡ Ok 372
unfolding tab tapped
tapped_read_off = same_for Z tapped four_zeros 1 1 refl ∙ tapped_accepted

tapped_tap : tap (read_taps Z tapped 1) 2 ≡ 0 ∷ 1 ∷ 0 ∷ 0 ∷ []
unfolding tab sum times_column times inverse_of constant initial_constant first_step_constant cubes tap row minus back_step
    back read_input read_word read_taps shifted Z tapped
tapped_tap = refl

tapped_read : (old : List ℕ) → length old ≡ 16 → tap (read_off_leaves Z tapped four_zeros 1 old) 2 ≡ 0 ∷ 1 ∷ 0 ∷ 0 ∷ []
unfolding tab tapped read_off_answer read_off_leaves
tapped_read old e =
    ap (λ x. tap (leaves x (read_taps Z tapped 1) old) 2)
    (value_accepted (read_off_test Z tapped four_zeros 1 (length old)) _ 372 answered).0
    ∙ tapped_tap
  where
    answered : read_off_answer Z tapped four_zeros 1 (length old) ≡ Ok 372
    answered = ap (read_off_answer Z tapped four_zeros 1) e ∙ tapped_read_off

pub known_days_hold : KnownDays
unfolding ones tab sum first first_bad halving power root times_column times matrix_of inverse_of constant initial_constant
    first_step_constant second_step_constant roots cubes plus mix first_step second_step state_at final_state input hash tap
    output_at chain row plus_first forward minus back_step back families of_family applies holds row_tests tests_from tests
    walk constraint_test place_of shifted Z A zero_trace with_one four_zeros
known_days_hold = record {
  product_of_negatives = refl;
  product_of_powers = refl;
  root_of_0 = refl;
  root_of_8 = refl;
  root_of_negative = refl;
  hash_Z = hashed Z accepted_Z ((8 ∷ 27 ∷ 1 ∷ 0 ∷ []) ++ four_zeros) refl;
  hash_A = hashed A accepted_A (four_zeros ++ four_zeros) refl;
  hash_S = hash_S;
  chain_A = chained A accepted_A (replicate 16 0) refl;
  zero_accepted = judges Z accepted_Z zero_trace four_zeros 1 refl;
  zero_claim = judges Z accepted_Z zero_trace (1 ∷ 0 ∷ 0 ∷ 0 ∷ []) 1 refl;
  one_at_0_8 = judges Z accepted_Z (with_one 0 8) four_zeros 1 refl;
  one_at_31_5 = judges Z accepted_Z (with_one 31 5) four_zeros 1 refl;
  one_at_11_5 = judges Z accepted_Z (with_one 11 5) four_zeros 1 refl;
  places = (refl, refl, refl, refl);
  tapped_accepted = tapped_accepted;
  tapped_read_off = tapped_read_off;
  tapped_read = tapped_read;
}
