-- What a call returns says all of its answer: number and values are read back from the code, for every input. And
-- Prepare's call, whose contract is a relation, has one answer.
-- Assumes nothing.
use mathlib.Core.Path.{◌≡◌, sym, ap, subst, ◌∙◌}
use mathlib.Core.List.{List, ◌∷◌, Memᴰ}
use Prim.Native.Nat.{ℕ, ◌^◌, ◌≤◌, ◌<◌}
use native.Mathlib.Omega.{arith}
use lib.Dec.{lit<}
use lib.ListN.{length, length-append}
use Rattle.numbers.specs.Numbers.{IsPermitted, most_batches, trace_word_batches}
use Rattle.refusals.specs.Refusals.{indexed, alone}
use Rattle.refusals.specs.declared.Place.TheVariants as place
use Rattle.check_constraints.specs.Constraints.{Test, tests}
use Rattle.check_constraints.specs.FirstFailing.{IsFirstFailing}
use Rattle.check_constraints.proofs.Families.{applies_cases}
use Rattle.check_constraints.proofs.TestList.{in_middle, number_range, test_list}
use Rattle.check_constraints.proofs.TestCount.{length_tests}
use Rattle.refusals.proofs.Laws.{AnswerEnds}
use Rattle.table.specs.Table.{Prepares}
use Rattle.table_prepare.proofs.Theorems.{prepares_unique}
use Rattle.check_trace.specs.Answers.{check_test}
use Rattle.check_trace.proofs.Answers.{CheckInputs}
use Rattle.trace_read_off.specs.Answers.{read_off_test}
use Rattle.board.specs.Board.{pack_test, batches_in, most_file_batches}
use Rattle.board_short.specs.ShortBoard.{pack_short_test, short_batches_in}
use Rattle.board_to_short.specs.ToShort.{to_short_test}
use Rattle.board_to_full.specs.ToFull.{to_full_test}
use Rattle.call_results.specs.Code.{answer_code}
use Rattle.call_answers.specs.Calls.{PrepareCall, hash_call_test, chain_call_test, build_call_test, edit_call_test}
use Rattle.call_answers.specs.Calls.{unhash_call_test, unpack_call_test, unpack_short_call_test}
use Rattle.call_results.proofs.Bits.{InBits, RefusalInBits}
use Rattle.call_answers.proofs.Endings.Table.{TableCauses}
use Rattle.call_answers.proofs.Endings.Taps.{TapsCauses}
use Rattle.call_answers.proofs.Endings.Trace.{TraceCauses}
use Rattle.call_answers.proofs.Endings.Prepare.{prepare_ends}
use Rattle.call_answers.proofs.Endings.Hash.{hash_call_ends}
use Rattle.call_answers.proofs.Endings.Chain.{chain_call_ends}
use Rattle.call_answers.proofs.Endings.Build.{build_call_ends}
use Rattle.call_answers.proofs.Endings.Check.{check_ends}
use Rattle.call_answers.proofs.Endings.ReadOff.{read_off_ends}
use Rattle.call_answers.proofs.Endings.Edit.{edit_call_ends}
use Rattle.call_answers.proofs.Endings.Unhash.{unhash_call_ends}
use Rattle.call_answers.proofs.Endings.Pack.{pack_ends, pack_short_ends}
use Rattle.call_answers.proofs.Endings.Full.{FullCauses}
use Rattle.call_answers.proofs.Endings.Short.{ShortCauses}
use Rattle.call_answers.proofs.Endings.Unpack.{unpack_call_ends}
use Rattle.call_answers.proofs.Endings.UnpackShort.{unpack_short_call_ends}
use Rattle.call_answers.proofs.Endings.ToShort.{to_short_ends}
use Rattle.call_answers.proofs.Endings.ToFull.{to_full_ends}
use Rattle.refusals.specs.Answers.{Answer}

-- ---- every refusal is within the bits: a number alone, and the indices in a table, a list, a trace and a file
alone_bits : (n : ℕ) → n < 2 ^ 6 → InBits (alone n)
alone_bits n h = record { number = h; constraint = lit< tt; row = lit< tt; value = lit< tt }

one : InBits (alone 1)
one = alone_bits 1 (lit< tt)

eight : InBits (alone 8)
eight = alone_bits 8 (lit< tt)

nineteen : InBits (alone 19)
nineteen = alone_bits 19 (lit< tt)

indexed_bits : (n i : ℕ) → n < 2 ^ 6 → i < 2 ^ 28 → InBits (indexed n i)
indexed_bits n i h l = record { number = h; constraint = lit< tt; row = lit< tt; value = l }

table_bits : TableCauses RefusalInBits
table_bits = record {
  by_length = one;
  by_word = λ i h. indexed_bits 2 i (lit< tt) (omega arith);
  by_cell = λ c h. indexed_bits 4 c (lit< tt) (omega arith);
}

-- most is the most batches that are permitted
taps_bits : (most : ℕ) → most ≤ most_batches → (w : List ℕ) → TapsCauses RefusalInBits most w
taps_bits most l w = record {
  by_length = λ n. alone_bits 5 (lit< tt);
  by_word = λ k s p i h. indexed_bits 6 i (lit< tt) (omega (arith, p.high));
}

claim_bits : (claim : List ℕ) → length claim ≡ 4 → (i : ℕ) → i < length claim → InBits (indexed 9 i)
claim_bits claim four i h = indexed_bits 9 i (lit< tt) (omega arith)

trace_bits : (T t claim : List ℕ) (c : ℕ) → length claim ≡ 4 → TraceCauses RefusalInBits T t claim c
trace_bits T t claim c four = record {
  of_table = table_bits;
  by_length = λ n. alone_bits 7 (lit< tt);
  by_batches = λ k e p s o. alone_bits 17 (lit< tt);
  by_claim = claim_bits claim four;
  by_word = λ k s p i h. indexed_bits 10 i (lit< tt) (omega (arith, p.high));
}

full_bits : (file : List ℕ) → FullCauses RefusalInBits file
unfolding batches_in
full_bits file = record {
  by_length = alone_bits 12 (lit< tt);
  by_kind = λ j h. indexed_bits 13 j (lit< tt) (omega arith);
  by_value = λ j h. indexed_bits 14 j (lit< tt) (omega arith);
}

short_bits : (file : List ℕ) → ShortCauses RefusalInBits file
unfolding short_batches_in
short_bits file = record {
  by_length = alone_bits 12 (lit< tt);
  by_kind = λ j h. indexed_bits 13 j (lit< tt) (omega arith);
  by_value = λ j h. indexed_bits 14 j (lit< tt) (omega arith);
  by_long = λ j h. indexed_bits 18 j (lit< tt) (omega arith);
}

-- row, constraint and place of a failing test
failing_bits : (T t claim : List ℕ) (c k : ℕ) → IsPermitted k → 1 ≤ c → c ≤ k → (i q n : ℕ)
    → IsFirstFailing T t claim (tests k c) i q n
    → InBits (record { number = 11; place = place.Test i q n })
failing_bits T t claim c k p low high i q n f =
    let among = in_middle x f.before f.after in
    let in_List = (test_list k c x).0 (subst (Memᴰ x) (sym f.order) among) in
    let count = ap length f.order ∙ length-append f.before (x ∷ f.after) in
    record {
      number = lit< tt;
      constraint = omega (arith, (number_range k c i q (applies_cases k c i q in_List.1)).1);
      row = omega (arith, in_List.0, p.high);
      value = omega (arith, f.place, count, length_tests k c low high, p.high);
    }
  where
    x : Test
    x = record { at = i; number = q }

-- ---- so nothing of an answer is lost
pub prepare_bits : (raw old new : List ℕ) (a : Answer) → Prepares raw old a new → AnswerEnds RefusalInBits a
prepare_bits raw old new a h =
    prepare_ends RefusalInBits raw old (λ n. one) (λ n. eight)
    (λ i l. indexed_bits 2 i (lit< tt) (omega arith)) (alone_bits 3 (lit< tt)) new a h

pub hash_bits : (T words : List ℕ) (size : ℕ) → length words ≡ 8
    → AnswerEnds RefusalInBits (hash_call_test T words size)
hash_bits T words size h =
    hash_call_ends RefusalInBits table_bits T words (λ i l. indexed_bits 6 i (lit< tt) (omega arith)) size eight

pub unhash_bits : (T s : List ℕ) (size : ℕ) → length s ≡ 12 → AnswerEnds RefusalInBits (unhash_call_test T s size)
unhash_bits T s size h =
    unhash_call_ends RefusalInBits table_bits T s (λ i l. indexed_bits 6 i (lit< tt) (omega arith))
    (λ e c. alone_bits 16 (lit< tt)) size eight

pub chain_bits : (T w : List ℕ) (size : ℕ) → AnswerEnds RefusalInBits (chain_call_test T w size)
chain_bits T w size = chain_call_ends RefusalInBits table_bits T w (taps_bits most_batches (omega arith) w) size eight

pub build_bits : (T w : List ℕ) (rows size : ℕ) → AnswerEnds RefusalInBits (build_call_test T w rows size)
build_bits T w rows size =
    build_call_ends RefusalInBits table_bits T w (taps_bits most_batches (omega arith) w) rows size eight

module _ (T t claim : List ℕ) (c : ℕ) (four : length claim ≡ 4) where
  failing : let k = trace_word_batches (length t) in
      CheckInputs T t claim c k → (i q n : ℕ) → IsFirstFailing T t claim (tests k c) i q n
      → InBits (record { number = 11; place = place.Test i q n })
  failing h =
      let o = h.opening in
      failing_bits T t claim c (trace_word_batches (length t)) o.permitted o.low o.high

  pub check_bits : AnswerEnds RefusalInBits (check_test T t claim c)
  check_bits = check_ends RefusalInBits T t claim c (trace_bits T t claim c four) failing

  pub read_off_bits : (size : ℕ) → AnswerEnds RefusalInBits (read_off_test T t claim c size)
  read_off_bits size =
      read_off_ends RefusalInBits T t claim c (trace_bits T t claim c four) size eight (λ s. failing)

  pub edit_bits : (n : ℕ) (new : List ℕ) (size : ℕ) → length new ≡ 4
      → AnswerEnds RefusalInBits (edit_call_test T t claim c n new size)
  edit_bits n new size h =
      edit_call_ends RefusalInBits T t claim c (trace_bits T t claim c four) n new (alone_bits 15 (lit< tt))
      (λ i l. indexed_bits 6 i (lit< tt) (omega arith)) size eight (λ s l a. failing)

-- 372 × k tests, of an acceptance
pub tests_bits : (k c : ℕ) → IsPermitted k → 1 ≤ c → c ≤ k → length (tests k c) < 2 ^ 28
tests_bits k c p low high = omega (arith, length_tests k c low high, p.high)

pub pack_bits : (taps claim : List ℕ) (size : ℕ) → length claim ≡ 4
    → AnswerEnds RefusalInBits (pack_test taps claim size)
pack_bits taps claim size four =
    pack_ends RefusalInBits taps claim size eight (claim_bits claim four)
    (taps_bits most_file_batches (omega arith) taps)

pub unpack_bits : (file : List ℕ) (taps size : ℕ) → AnswerEnds RefusalInBits (unpack_call_test file taps size)
unpack_bits file taps size = unpack_call_ends RefusalInBits file (full_bits file) taps size eight

pub pack_short_bits : (taps claim : List ℕ) (size : ℕ) → length claim ≡ 4
    → AnswerEnds RefusalInBits (pack_short_test taps claim size)
pack_short_bits taps claim size four =
    pack_short_ends RefusalInBits taps claim size eight (claim_bits claim four)
    (taps_bits most_batches (omega arith) taps)

pub unpack_short_bits : (file : List ℕ) (taps size : ℕ) → AnswerEnds RefusalInBits (unpack_short_call_test file taps size)
unpack_short_bits file taps size = unpack_short_call_ends RefusalInBits file (short_bits file) taps size eight

pub to_short_bits : (file : List ℕ) (size : ℕ) → AnswerEnds RefusalInBits (to_short_test file size)
to_short_bits file size = to_short_ends RefusalInBits file (full_bits file) size nineteen eight

pub to_full_bits : (file : List ℕ) (size : ℕ) → AnswerEnds RefusalInBits (to_full_test file size)
to_full_bits file size = to_full_ends RefusalInBits file (short_bits file) size nineteen eight

-- ---- Prepare's answer is determined, and so is its call's
pub prepare_call_unique : (raw old : List ℕ) (c d : ℕ) (s t : List ℕ) → PrepareCall raw old c s
    → PrepareCall raw old d t → (c ≡ d) × (s ≡ t)
prepare_call_unique raw old c d s t a b =
    let one = prepares_unique raw old a.answer b.answer s t a.prepares b.prepares in
    (a.coded ∙ ap answer_code one.0 ∙ sym b.coded, one.1)
