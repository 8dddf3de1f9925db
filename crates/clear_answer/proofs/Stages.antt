-- What the stages answer one after the other: the taps of an accepted file are built and their trace checked without
-- any other refusal.
-- Assumes nothing.
use mathlib.Core.Path.{◌≡◌, refl, sym, ap, ◌∙◌, subst, subst₂}
use mathlib.Core.List.{List}
use Prim.Native.Nat.{ℕ, ◌+◌, ◌*◌, ◌-◌, ◌/◌, ◌≤◌}
use native.Mathlib.Decide.{ℕ_discrete}
use native.Mathlib.Omega.{arith}
use borrow.Author.Tests.{ne_eqb}
use lib.ListN.{length, length-drop, take, drop}
use lib.Seq.{take_all}
use Rattle.std.specs.Prelude.{Result, Ok, Err}
use Rattle.field_words.specs.Words.{AllCanonical}
use Rattle.numbers.specs.Numbers.{tap_word_batches}
use Rattle.refusals.specs.declared.Refusal.{Refusal}
use Rattle.refusals.specs.Answers.{Answer, after, with_value}
use Rattle.refusals.proofs.Laws.{value_accepted, value_refused, value_turned_back, value_returned}
use Rattle.table.specs.Table.{IsTable, Prepares}
use Rattle.table.proofs.Theorems.{test_sound}
use Rattle.table_prepare.proofs.Theorems.{prepared_accepted, refused_kept}
use Rattle.hash.specs.Hash.{chain}
use Rattle.trace.specs.Trace.{trace}
use Rattle.trace.specs.Answers.{build_answer, build_leaves}
use Rattle.trace.proofs.TraceCells.{length_trace, trace_canonical}
use Rattle.trace.proofs.Theorems.{build_accepts, build_leaves_lem}
use Rattle.check_constraints.specs.Constraints.{tests, constraint_test}
use Rattle.check_trace.specs.Answers.{check_answer}
use Rattle.check_trace.proofs.Theorems.{check_verdict}
use Rattle.board.specs.Board.{file_size, batches_in, claim_in, taps_in, unpack_test, unpack_answer, IsBoard}
use Rattle.board.proofs.Answers.{unpack_complete}
use Rattle.board.proofs.Round.{board_permitted, board_canonical, taps_length}
use Rattle.board.proofs.Theorems.{accepted_board}
use Rattle.clear_answer.specs.declared.Report.{Report}
use Rattle.clear_answer.specs.declared.Unclear.TheVariants.{Refused}
use Rattle.clear_answer.specs.Clearing.{table_bytes, longest, raw_in, file_in, checked_taps, cleared, unprepared}
use Rattle.clear_answer.specs.Clearing.{Outcome, outcome_of, Clears, turned_back, judged, Taps}

-- ---- the taps: built and checked

module _ (T w : List ℕ) (table : IsTable T) (taps : Taps w) where
  pub never_refused : (b : Result (List ℕ) Refusal) (size : ℕ) (r : Refusal)
      → size ≡ 384 * tap_word_batches (length w) → b ≡ build_answer T w size → b ≡ Err r → ⊥
  never_refused b size r s e q =
      let k : ℕ = tap_word_batches (length w) in
      let built = build_accepts T w k table taps.permitted taps.size taps.canonical in
      let accepted : b ≡ Ok (chain T w k) = e ∙ ap (build_answer T w) s ∙ built in
      let z : ◌≡◌ {A = ℕ} 0 1 = cc in
      omega arith

  module _ (claim old t : List ℕ) (a : Result ℕ Refusal) (good : AllCanonical claim)
      (room : length old ≡ 384 * tap_word_batches (length w)) (built : t ≡ build_leaves T w old)
      (checked : a ≡ check_answer T t claim (tap_word_batches (length w))) where
    abbrev k : ℕ
    k = tap_word_batches (length w)

    -- of Check's tests those of the constraints are left
    pub constraints_left : a ≡ with_value (constraint_test T (trace T w k) claim k k) (length (tests k k))
    constraints_left =
        let left = build_leaves_lem T w k table taps.permitted taps.size taps.canonical old room in
        let size = length_trace T w k in
        let canonical = trace_canonical T w k taps.size taps.canonical in
        let answered = check_verdict T (trace T w k) claim k k table taps.permitted taps.permitted.low
        (omega arith) size canonical good in
        checked ∙ ap (λ s. check_answer T s claim k) (built ∙ left) ∙ answered

    pub taps_accepted : (n : ℕ) → a ≡ Ok n → Ok (record { batches = k; tests = n }) ≡ checked_taps T w claim k
    unfolding checked_taps
    taps_accepted n e =
        let h = value_accepted _ _ n (sym constraints_left ∙ e) in
        value_returned refl h.0 (ap (λ m. record { batches = k; tests = m }) (sym h.1))

    pub taps_refused : (r : Refusal) → a ≡ Err r → Err r ≡ checked_taps T w claim k
    unfolding checked_taps
    taps_refused r e = value_turned_back refl _ (value_refused _ _ r (sym constraints_left ∙ e))

-- ---- the file

-- its length decides where the taps go; where it is no file's length, that is 12 and the destination does not matter
pub any_room : (file : List ℕ) (size : ℕ) → size ≡ length file / 12 - 4
    → unpack_test file size ≡ unpack_test file (12 * batches_in file + 4)
unfolding unpack_test
any_room file size e = go (ℕ_discrete (length file) (file_size (batches_in file)))
  where
    go : Dec (length file ≡ file_size (batches_in file))
        → unpack_test file size ≡ unpack_test file (12 * batches_in file + 4)
    go (yes l) =
        let room : size ≡ 12 * batches_in file + 4 = omega arith in
        ap (unpack_test file) room
    go (no l) = rw (ne_eqb _ _ l)

-- the taps of an accepted file
module _ (file : List ℕ) (board : IsBoard file (batches_in file)) where
  pub batches_are : tap_word_batches (length (taps_in file)) ≡ batches_in file
  batches_are = omega (arith, taps_length file)

  pub file_taps : length file ≤ 2404 → Taps (taps_in file)
  file_taps short = record {
    size = omega (arith, taps_length file);
    permitted = rw batches_are (board_permitted file (batches_in file) board);
    few = omega (arith, taps_length file, board.size);
    canonical = (board_canonical file board).1;
  }

-- unpacked into the room that its length gives
module _ (T file : List ℕ) (size : ℕ) (room : size ≡ length file / 12 - 4)
    (a : Result (List ℕ) Refusal) (e : a ≡ unpack_answer file size) where
  pub file_board : (d : List ℕ) → a ≡ Ok d → IsBoard file (batches_in file) × (claim_in file ≡ d)
  file_board d q =
      let b = accepted_board file size d (sym e ∙ q) in
      (b.0, b.2)

  pub file_cleared : (d : List ℕ) → a ≡ Ok d → (w : List ℕ) (o : Result Report Refusal) → w ≡ taps_in file
      → o ≡ checked_taps T w d (tap_word_batches (length w)) → o ≡ cleared T file
  unfolding cleared
  file_cleared d q w o taps told =
      let b = file_board d q in
      let rest = checked_taps T (taps_in file) (claim_in file) (batches_in file) in
      told
      ∙ ap (λ s. checked_taps T s d (tap_word_batches (length s))) taps
      ∙ ap (checked_taps T (taps_in file) d) (batches_are file b.0)
      ∙ ap (λ s. checked_taps T (taps_in file) s (batches_in file)) (sym b.1)
      ∙ sym (ap (λ t. after t rest) (unpack_complete file (batches_in file) b.0))

  pub file_refused : (r : Refusal) → a ≡ Err r → Err r ≡ cleared T file
  unfolding cleared unpack_answer
  file_refused r q =
      let tested = value_refused (unpack_test file size) (claim_in file) r (sym e ∙ q) in
      let rest = checked_taps T (taps_in file) (claim_in file) (batches_in file) in
      sym (ap (λ t. after t rest) (sym (any_room file size room) ∙ tested))

-- ---- the input

-- what is left after the table
pub rest_file : (input : List ℕ) → take (length input - table_bytes) (drop table_bytes input) ≡ file_in input
unfolding file_in
rest_file input =
    take_all (length input - table_bytes) (drop table_bytes input) (omega (arith, length-drop table_bytes input))

module _ (input old T : List ℕ) (a : Answer) (low : table_bytes ≤ length input) (high : length input ≤ longest)
    (room : old ≡ unprepared) (prepares : Prepares (raw_in input) old a T) where
  prepared : (b : Answer) → a ≡ b → Prepares (raw_in input) unprepared b T
  prepared b e = subst₂ (λ s b. Prepares (raw_in input) s b T) room e prepares

  pub is_table : a ≡ Ok tt → IsTable T
  is_table e = test_sound T (prepared_accepted (raw_in input) unprepared T (prepared (Ok tt) e))

  pub file_judged : (file : List ℕ) (o : Outcome) → a ≡ Ok tt → file ≡ file_in input
      → o ≡ outcome_of (cleared T file) → Clears input o
  file_judged file o e f q =
      subst (Clears input) (sym (q ∙ ap (λ s. outcome_of (cleared T s)) f)) (judged low high T (prepared (Ok tt) e))

  pub table_turned_back : (r : Refusal) → a ≡ Err r → Clears input (Err (Refused r))
  table_turned_back r e =
      let p = prepared (Err r) e in
      let kept = refused_kept (raw_in input) unprepared T r p in
      turned_back low high r (subst (Prepares (raw_in input) unprepared (Err r)) kept p)
