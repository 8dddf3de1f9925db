-- What is turned back: each order of tests is decided by its causes, one after the other, by the one law of causes
-- (crate `refusals`, proofs/Causes.antt).
-- Assumes nothing.
use mathlib.Core.Path.{◌≡◌, refl, sym, ap, subst, ◌∙◌}
use mathlib.Core.Bool.{Bool, true, false, true≢false, ◌&&◌}
use mathlib.Core.List.{List}
use mathlib.Core.Logic.{⊎_elim}
use Prim.Native.Nat.{ℕ, ◌+◌, ◌*◌, ◌^◌, ◌≤◌, ◌<◌}
use native.Mathlib.Omega.{arith}
use borrow.Author.Tests.{eq-eqb, eqb-true, eqb-false, leb-true, leb-false, ltb-true, ltb-false}
use lib.Dec.{eqb, leb, ltb, lit<}
use lib.ListN.{length}
use Rattle.std.specs.Prelude.{Ok, Err}
use Rattle.lists.proofs.Bools.{and_both, and_intro}
use Rattle.field.specs.Field.{P}
use Rattle.field_words.specs.Words.{first_bad, IsFirstBad, canonical_words}
use Rattle.field_words.proofs.Laws.{within, first_bad_lem, only_first_bad, good_test}
use Rattle.numbers.specs.Numbers.{most_batches, IsPermittedTo, permitted, is_tap_length, tap_word_batches}
use Rattle.numbers.specs.Numbers.{is_trace_length}
use Rattle.numbers.specs.Numbers.{trace_word_batches}
use Rattle.numbers.proofs.Laws.{permitted_sound, permitted_complete, tap_length_sound, tap_length_complete}
use Rattle.numbers.proofs.Laws.{trace_length_sound, trace_length_complete}
use Rattle.refusals.specs.Answers.{Answer, unless, after, with_value}
use Rattle.refusals.specs.Causes.{by, by_index, in_order, DecidedBy}
use Rattle.refusals.specs.declared.Refusal.{Refusal}
use Rattle.refusals.specs.declared.Refusal.TheVariants.{TableLength, TableWord, NoInverse, WrongInverse, TapLength}
use Rattle.refusals.specs.declared.Refusal.TheVariants.{TapWord, TraceLength, DestinationLength, ClaimWord, TraceWord}
use Rattle.refusals.specs.declared.Refusal.TheVariants.{FileLength, WrongKind, WrongValue, NoSuchTap, NoPair}
use Rattle.refusals.specs.declared.Refusal.TheVariants.{ClaimBatches}
use Rattle.refusals.proofs.Laws.{not_accepted, refused_same, value_accepted, value_refused, AnswerEnds}
use Rattle.refusals.proofs.Causes.{decided, one, one_index, tests_after_lem, test_before}
use Rattle.matrix.specs.Matrix.{Inverse, Kernel, entry}
use Rattle.matrix.proofs.Dichotomy.{Invertible, dichotomy, not_both}
use Rattle.table.specs.Table.{raw_words, table_words, first_unlike, IsFirstUnlike, raw_matrix, raw_test, table_test}
use Rattle.table.specs.Table.{Prepares}
use Rattle.table.specs.Table.{accepts, no_inverse, refuses}
use Rattle.table.proofs.Theorems.{test_sound, first_cell, only_first_cell}
use Rattle.hash.specs.Answers.{hash_test}
use Rattle.hash_chain.specs.Answers.{chain_test}
use Rattle.trace.specs.Answers.{build_test}
use Rattle.check_constraints.specs.Constraints.{between, constraint_test}
use Rattle.check_constraints.proofs.Families.{range, in_range}
use Rattle.check_constraints.proofs.WalkLaws.{first_failing_refused, refused_first_failing, else_first_failing}
use Rattle.check_trace.specs.Answers.{opening_test, trace_test, check_test, check_answer}
use Rattle.check_trace.proofs.Answers.{check_inputs}
use Rattle.trace_read_off.specs.Answers.{read_off_test, read_off_answer}
use Rattle.trace_read_off.proofs.Answers.{read_off_inputs}
use Rattle.trace_edit.specs.Answers.{edit_test}
use Rattle.hash_undo.specs.Unhash.{input_before, ends_in_zeros}
use Rattle.hash_undo.specs.Answers.{unhash_test, unhash_answer}
use Rattle.hash_undo.proofs.Theorems.{hash_answered, answered_or_16}
use Rattle.board_words.specs.Words.{kind_of, word_at}
use Rattle.board_words.specs.Elements.{element_at, element_test, elements_test}
use Rattle.board_words.proofs.Tests.{first_refused, found_refused}
use Rattle.board.specs.Board.{most_file_batches, count_word, file_size, element_count, pack_test, count_in, spare_in}
use Rattle.board.specs.Board.{batches_in}
use Rattle.board.specs.Board.{count_test, unpack_test}
use Rattle.board_short.specs.ShortBoard.{short_file_size, pack_short_test}
use Rattle.call_results.specs.Code.{answer_code, words_code, tests_code}
use Rattle.call_results.specs.HandsOver.{HandsOver}
use Rattle.call_results.proofs.Bits.{RefusalInBits, told_exactly, accepted_exactly}
use Rattle.call_answers.specs.Calls.{PrepareCall, hash_call_test, hash_call, chain_call_test, chain_call}
use Rattle.call_answers.specs.Calls.{build_call_test}
use Rattle.call_answers.specs.Calls.{build_call, BuildCall, ReadOffCall, edit_call_test, edit_call, EditCall}
use Rattle.call_answers.specs.Calls.{unhash_call_test, UnhashCall, PackCall, unpack_call_test, unpack_call, UnpackCall}
use Rattle.call_answers.specs.Calls.{PackShortCall}
use Rattle.call_answers.proofs.Theorems as bits
use Rattle.demands.specs.TurnedBack.{table_causes, raw_causes, prepare_causes, hash_causes, hash_call_causes}
use Rattle.demands.specs.TurnedBack.{NoTapLength, chain_causes, written_causes, NoTraceLength, opening_causes}
use Rattle.demands.specs.TurnedBack.{constraint_causes, check_causes, read_off_causes, edit_causes, edit_call_causes}
use Rattle.demands.specs.TurnedBack.{NoTwoTaps, unhash_causes, unhash_call_causes, file_causes, pack_causes}
use Rattle.demands.specs.TurnedBack.{pack_short_causes, RowsFit, count_causes, element_causes, elements_causes}
use Rattle.demands.specs.TurnedBack.{TapsFit, unpack_causes, SaidFor, TurnedBack}
use Rattle.demands.proofs.Demand1.Words.{answer_none, digest_none, state_none}
use Rattle.demands.specs.Request5.{EndsIn}

-- ---- single tests

-- two numbers are to be equal
equal : (q : Refusal) (m n : ℕ) → DecidedBy (by q (m ≡ n → ⊥)) (unless (eqb m n) q (Ok tt))
equal q m n = one (eqb m n) q (m ≡ n → ⊥) (eqb-false m n) (λ e other. other (eqb-true m n e))

-- and two more
both_equal : (q : Refusal) (m n i j : ℕ)
    → DecidedBy (by q ((m ≡ n) × (i ≡ j) → ⊥)) (unless (eqb m n && eqb i j) q (Ok tt))
both_equal q m n i j =
    one (eqb m n && eqb i j) q ((m ≡ n) × (i ≡ j) → ⊥)
    (λ e h. true≢false (sym (and_intro (eqb m n) (eqb i j) (eq-eqb m n h.0) (eq-eqb i j h.1)) ∙ e))
    (λ e other.
    let h = and_both (eqb m n) (eqb i j) e in
    other (eqb-true m n h.0, eqb-true i j h.1))

-- words, n of them, are to be canonical
words_to : (q : ℕ → Refusal) (s : List ℕ) (n : ℕ) → length s ≡ n
    → DecidedBy (by_index q (IsFirstBad s)) (unless (eqb (first_bad s) n) (q (first_bad s)) (Ok tt))
words_to q s n size =
    one_index (eqb (first_bad s) n) q (first_bad s) (IsFirstBad s)
    (λ e. first_bad_lem s (omega (arith, within s, eqb-false (first_bad s) n e)))
    (λ e j h. omega (arith, only_first_bad s j h, h.within, eqb-true (first_bad s) n e)) (only_first_bad s)

pub words : (q : ℕ → Refusal) (s : List ℕ)
    → DecidedBy (by_index q (IsFirstBad s)) (unless (canonical_words s) (q (first_bad s)) (Ok tt))
words q s = words_to q s (length s) refl

tap_length : (most : ℕ) (w : List ℕ)
    → DecidedBy (by TapLength (NoTapLength most w)) (unless (is_tap_length most (length w)) TapLength (Ok tt))
tap_length most w =
    one (is_tap_length most (length w)) TapLength (NoTapLength most w)
    (λ e k p s. true≢false (sym (tap_length_complete most (length w) k s p).0 ∙ e))
    (λ e none. (let s = tap_length_sound most (length w) e in none (tap_word_batches (length w)) s.1 s.0))

trace_length : (t : List ℕ)
    → DecidedBy (by TraceLength (NoTraceLength t)) (unless (is_trace_length most_batches (length t)) TraceLength (Ok tt))
trace_length t =
    one (is_trace_length most_batches (length t)) TraceLength (NoTraceLength t)
    (λ e k p s. true≢false (sym (trace_length_complete most_batches (length t) k s p).0 ∙ e))
    (λ e none.
    let s = trace_length_sound most_batches (length t) e in
    none (trace_word_batches (length t)) s.1 s.0)

-- ---- the table
table : (T : List ℕ) → DecidedBy (table_causes T) (table_test T)
unfolding table_test
table T =
    test_before _ _ (eqb (length T) table_words) TableLength _ (equal TableLength (length T) table_words) λ e.
    test_before _ _ (eqb (first_bad T) table_words) (TableWord (first_bad T)) _
    (words_to TableWord T table_words (eqb-true (length T) table_words e)) λ f.
    one_index (eqb (first_unlike T) 144) WrongInverse (first_unlike T) (IsFirstUnlike T)
    (λ g. first_cell T (eqb-false (first_unlike T) 144 g))
    (λ g c h. omega (arith, only_first_cell T c h, h.within, eqb-true (first_unlike T) 144 g)) (only_first_cell T)

tested : (T : List ℕ) (next : Refusal → Type 0) (rest : Answer) → (table_test T ≡ Ok tt → DecidedBy next rest)
    → DecidedBy (in_order (table_causes T) next) (after (table_test T) rest)
tested T next rest = tests_after_lem (table_causes T) next (table_test T) rest (table T)

-- ---- Prepare: what its tests refuse, and then 3
raw_table : (raw : List ℕ) (size : ℕ) → DecidedBy (raw_causes raw size) (raw_test raw size)
unfolding raw_test
raw_table raw size =
    test_before _ _ (eqb (length raw) raw_words) TableLength _ (equal TableLength (length raw) raw_words) λ e.
    test_before _ _ (eqb size table_words) DestinationLength _ (equal DestinationLength size table_words) λ f.
    words_to TableWord raw raw_words (eqb-true (length raw) raw_words e)

prepare : (raw old new : List ℕ) (a : Answer) → Prepares raw old a new → DecidedBy (prepare_causes raw (length old)) a
prepare raw old new a h = go a new h
  where
    m : ℕ → ℕ → ℕ
    m = entry (raw_matrix raw)

    -- b tells whether M has an inverse, x is what comes of that after the answer y of the tests
    answered : (b : Bool) (y x : Answer) → raw_test raw (length old) ≡ y → after y (unless b NoInverse (Ok tt)) ≡ x
        → (b ≡ false → Kernel 12 m) → (b ≡ true → Kernel 12 m → ⊥) → DecidedBy (prepare_causes raw (length old)) x
    answered b y x e q f g =
        subst (DecidedBy (prepare_causes raw (length old))) (ap (λ z. after z (unless b NoInverse (Ok tt))) e ∙ q)
        (tests_after_lem (raw_causes raw (length old)) (by NoInverse (Kernel 12 m)) (raw_test raw (length old)) _
        (raw_table raw (length old)) (λ p. one b NoInverse (Kernel 12 m) f g))

    with_inverse : (n : ℕ → ℕ → ℕ) → Inverse 12 m n → (y x : Answer) → raw_test raw (length old) ≡ y
        → after y (Ok tt) ≡ x → DecidedBy (prepare_causes raw (length old)) x
    with_inverse n i y x e q = answered true y x e q (λ z. absurd (true≢false z)) (λ z. not_both 12 m n i)

    without : Kernel 12 m → (y x : Answer) → raw_test raw (length old) ≡ y → after y (Err NoInverse) ≡ x
        → DecidedBy (prepare_causes raw (length old)) x
    without k y x e q = answered false y x e q (λ z. k) (λ z. absurd (true≢false (sym z)))

    go : (x : Answer) (s : List ℕ) → Prepares raw old x s → DecidedBy (prepare_causes raw (length old)) x
    go x s (accepts n e i) = with_inverse (entry n) i.inverse (Ok tt) x e refl
    go x s (no_inverse e k) = without k (Ok tt) x e refl
    go x s (refuses r e) =
        ⊎_elim (λ (i : Invertible 12 m). with_inverse i.matrix i.right (Err r) x e refl)
        (λ (k : Kernel 12 m). without k (Err r) x e refl) (dichotomy 12 m)

-- ---- Hash, Chain and Build
hash : (T s : List ℕ) → DecidedBy (hash_causes T s) (hash_test T s)
unfolding hash_test
hash T s = tested T _ _ (λ e. words TapWord s)

hash_called : (T s : List ℕ) (size : ℕ) → DecidedBy (hash_call_causes T s size) (hash_call_test T s size)
unfolding hash_call_test
hash_called T s size =
    tested T _ _ λ e.
    test_before _ _ (eqb size 12) DestinationLength _ (equal DestinationLength size 12) λ f. words TapWord s

chain : (T w : List ℕ) → DecidedBy (chain_causes T w) (chain_test T w)
unfolding chain_test
chain T w =
    tested T _ _ λ e.
    test_before _ _ (is_tap_length most_batches (length w)) TapLength _ (tap_length most_batches w) λ f. words TapWord w

-- room is the test of the destinations
written : (T w : List ℕ) (Room : Type 0) (room : Bool)
    → DecidedBy (by DestinationLength (Room → ⊥)) (unless room DestinationLength (Ok tt))
    → DecidedBy (written_causes T w Room) (after (table_test T)
    (unless (is_tap_length most_batches (length w)) TapLength
    (unless room DestinationLength
    (unless (canonical_words w) (TapWord (first_bad w))
    (Ok tt)))))
written T w Room room d =
    tested T _ _ λ e.
    test_before _ _ (is_tap_length most_batches (length w)) TapLength _ (tap_length most_batches w) λ f.
    test_before _ _ room DestinationLength _ d λ g. words TapWord w

chain_called : (T w : List ℕ) (size : ℕ) → DecidedBy (written_causes T w (size ≡ 4)) (chain_call_test T w size)
unfolding chain_call_test
chain_called T w size = written T w (size ≡ 4) (eqb size 4) (equal DestinationLength size 4)

build : (T w : List ℕ) (rows : ℕ)
    → DecidedBy (written_causes T w (rows ≡ 384 * tap_word_batches (length w))) (build_test T w rows)
unfolding build_test
build T w rows =
    let n = 384 * tap_word_batches (length w) in
    written T w (rows ≡ n) (eqb rows n) (equal DestinationLength rows n)

build_called : (T w : List ℕ) (rows size : ℕ)
    → DecidedBy (written_causes T w ((size ≡ 4) × (rows ≡ 384 * tap_word_batches (length w)))) (build_call_test T w rows size)
unfolding build_call_test
build_called T w rows size =
    let n = 384 * tap_word_batches (length w) in
    written T w ((size ≡ 4) × (rows ≡ n)) (eqb size 4 && eqb rows n) (both_equal DestinationLength size 4 rows n)

-- ---- Check, Read-off and Edit
pub opening : (T t : List ℕ) (c : ℕ) → DecidedBy (opening_causes T t c) (opening_test T t c)
unfolding opening_test
opening T t c =
    let k = trace_word_batches (length t) in
    tested T _ _ λ e.
    test_before _ _ (is_trace_length most_batches (length t)) TraceLength _ (trace_length t) λ f.
    one (between 1 k c) ClaimBatches ((1 ≤ c) × (c ≤ k) → ⊥)
    (λ g h. true≢false (sym (in_range 1 k c h.0 h.1) ∙ g)) (λ g out. out (range 1 k c g))

module _ (T t claim : List ℕ) (c : ℕ) where
  abbrev k : ℕ
  k = trace_word_batches (length t)

  opened : (next : Refusal → Type 0) (rest : Answer) → DecidedBy next rest
      → DecidedBy (in_order (opening_causes T t c) next) (after (opening_test T t c) rest)
  opened next rest d = tests_after_lem (opening_causes T t c) next (opening_test T t c) rest (opening T t c) (λ e. d)

  constraints : DecidedBy (constraint_causes T t claim c) (constraint_test T t claim c k)
  constraints = decided (constraint_causes T t claim c) (constraint_test T t claim c k) λ r. (
    λ e.
        let f = else_first_failing T t claim k c (λ a. not_accepted r (sym e ∙ a)) in (
          f.0,
          f.1,
          f.2,
          refused_first_failing T t claim k c f.0 f.1 f.2 f.3,
          refused_same (sym e ∙ f.3),
        ),
    λ f. first_failing_refused T t claim k c f.0 f.1 f.2 f.3 ∙ ap Err (sym f.4),
  )

  -- the words of the claim and of the trace, and then more
  judged : (next : Refusal → Type 0) (rest : Answer) → DecidedBy next rest
      → DecidedBy (in_order (by_index ClaimWord (IsFirstBad claim)) (in_order (by_index TraceWord (IsFirstBad t)) next))
      (unless (canonical_words claim) (ClaimWord (first_bad claim))
      (unless (canonical_words t) (TraceWord (first_bad t)) rest))
  judged next rest d =
      test_before _ _ (canonical_words claim) (ClaimWord (first_bad claim)) _ (words ClaimWord claim) λ e.
      test_before _ _ (canonical_words t) (TraceWord (first_bad t)) rest (words TraceWord t) λ f. d

  check : DecidedBy (check_causes T t claim c) (check_test T t claim c)
  unfolding check_test trace_test
  check = opened _ _ (judged _ _ constraints)

  read_off : (size : ℕ) → DecidedBy (read_off_causes T t claim c size) (read_off_test T t claim c size)
  unfolding read_off_test trace_test
  read_off size =
      opened _ _
      (test_before _ _ (eqb size (12 * k + 4)) DestinationLength _ (equal DestinationLength size (12 * k + 4))
      (λ e. judged _ _ constraints))

  module _ (n : ℕ) (new : List ℕ) where
    numbered : DecidedBy (by NoSuchTap (3 * k < n)) (unless (leb n (3 * k)) NoSuchTap (Ok tt))
    numbered =
        one (leb n (3 * k)) NoSuchTap (3 * k < n) (leb-false n (3 * k)) (λ e l. omega (arith, leb-true n (3 * k) e, l))

    edited : DecidedBy (in_order (by_index ClaimWord (IsFirstBad claim))
        (in_order (by_index TraceWord (IsFirstBad t))
        (in_order (by_index TapWord (IsFirstBad new))
        (constraint_causes T t claim c))))
        (unless (canonical_words claim) (ClaimWord (first_bad claim))
        (unless (canonical_words t) (TraceWord (first_bad t))
        (unless (canonical_words new) (TapWord (first_bad new))
        (constraint_test T t claim c k))))
    edited =
        judged _ _
        (test_before _ _ (canonical_words new) (TapWord (first_bad new)) _ (words TapWord new) (λ e. constraints))

    edit : DecidedBy (edit_causes T t claim c n new) (edit_test T t claim c n new)
    unfolding edit_test
    edit = opened _ _ (test_before _ _ (leb n (3 * k)) NoSuchTap _ numbered (λ e. edited))

    edit_called : (size : ℕ) → DecidedBy (edit_call_causes T t claim c n new size) (edit_call_test T t claim c n new size)
    unfolding edit_call_test
    edit_called size =
        opened _ _
        (test_before _ _ (leb n (3 * k)) NoSuchTap _ numbered λ e.
        test_before _ _ (eqb size 4) DestinationLength _ (equal DestinationLength size 4) λ f. edited)

-- ---- Unhash
module _ (T s : List ℕ) (twelve : length s ≡ 12) where
  -- 16, where table and cells have passed
  no_pair : table_test T ≡ Ok tt → canonical_words s ≡ true
      → DecidedBy (by NoPair (NoTwoTaps T s)) (unless (ends_in_zeros (input_before T s)) NoPair (Ok tt))
  unfolding unhash_answer unhash_test
  no_pair table good =
      one (ends_in_zeros (input_before T s)) NoPair (NoTwoTaps T s)
      (λ z w eight h.
      let refused : unhash_test T s ≡ Err NoPair = rw (table, good, z) in
      let answered = value_accepted (unhash_test T s) _ w (hash_answered T s twelve w eight h) in
      not_accepted NoPair (sym refused ∙ answered.0))
      (λ z none.
      let accepted : unhash_test T s ≡ Ok tt = rw (table, good, z) in
      ⊎_elim (λ (w : (w : List ℕ) × (length w ≡ 8) × EndsIn T w s). none w.0 w.1 w.2)
      (λ (e : unhash_answer T s ≡ Err NoPair).
      not_accepted NoPair (sym (value_refused (unhash_test T s) _ NoPair e) ∙ accepted))
      (answered_or_16 T s twelve (test_sound T table) (good_test s good)))

  cells : table_test T ≡ Ok tt
      → DecidedBy (in_order (by_index TapWord (IsFirstBad s)) (by NoPair (NoTwoTaps T s)))
      (unless (canonical_words s) (TapWord (first_bad s)) (unless (ends_in_zeros (input_before T s)) NoPair (Ok tt)))
  cells e = test_before _ _ (canonical_words s) (TapWord (first_bad s)) _ (words TapWord s) (no_pair e)

  unhash : DecidedBy (unhash_causes T s) (unhash_test T s)
  unfolding unhash_test
  unhash = tested T _ _ cells

  unhash_called : (size : ℕ) → DecidedBy (unhash_call_causes T s size) (unhash_call_test T s size)
  unfolding unhash_call_test
  unhash_called size =
      tested T _ _ λ e.
      test_before _ _ (eqb size 8) DestinationLength _ (equal DestinationLength size 8) λ f. cells e

-- ---- the files
packing : (most n : ℕ) (w claim : List ℕ) (size : ℕ)
    → DecidedBy (file_causes most n w claim size) (unless (is_tap_length most (length w)) TapLength
    (unless (eqb size n) DestinationLength
    (unless (canonical_words claim) (ClaimWord (first_bad claim))
    (unless (canonical_words w) (TapWord (first_bad w))
    (Ok tt)))))
packing most n w claim size =
    test_before _ _ (is_tap_length most (length w)) TapLength _ (tap_length most w) λ e.
    test_before _ _ (eqb size n) DestinationLength _ (equal DestinationLength size n) λ f.
    test_before _ _ (canonical_words claim) (ClaimWord (first_bad claim)) _ (words ClaimWord claim) λ g. words TapWord w

pack : (w claim : List ℕ) (size : ℕ) → DecidedBy (pack_causes w claim size) (pack_test w claim size)
unfolding pack_test
pack w claim size = packing most_file_batches (file_size (tap_word_batches (length w))) w claim size

pack_short : (w claim : List ℕ) (size : ℕ) → DecidedBy (pack_short_causes w claim size) (pack_short_test w claim size)
unfolding pack_short_test
pack_short w claim size = packing most_batches (short_file_size w claim) w claim size

-- spare bits and k of word 0 are refused alike
count : (w : ℕ) → DecidedBy (count_causes w) (count_test w)
unfolding count_test
count w =
    test_before _ _ (eqb (kind_of w) 0) (WrongKind 0) _ (equal (WrongKind 0) (kind_of w) 0) λ e.
    subst (DecidedBy (by (WrongValue 0) NoCount)) (joined_tests (eqb (spare_in w) 0) permits)
    (one (eqb (spare_in w) 0 && permits) (WrongValue 0) NoCount is_none λ g none.
    let b = and_both (eqb (spare_in w) 0) permits g in
    let word : w ≡ count_word (count_in w) = omega (arith, eqb-true (kind_of w) 0 e, eqb-true (spare_in w) 0 b.0) in
    none (count_in w) (permitted_sound most_file_batches (count_in w) b.1) word)
  where
    permits : Bool
    permits = permitted most_file_batches (count_in w)

    NoCount : Type 0
    NoCount = (k : ℕ) → IsPermittedTo most_file_batches k → w ≡ count_word k → ⊥

    is_none : (eqb (spare_in w) 0 && permits) ≡ false → NoCount
    is_none f k p s =
        let spare : spare_in w ≡ 0 = omega (arith, s, p.high) in
        let k-is : count_in w ≡ k = omega (arith, s, p.high) in
        let right = ap (permitted most_file_batches) k-is ∙ permitted_complete most_file_batches k p in
        true≢false (sym (and_intro (eqb (spare_in w) 0) permits (eq-eqb _ _ spare) right) ∙ f)

    joined_tests : (x y : Bool)
        → unless (x && y) (WrongValue 0) (Ok tt) ≡ unless x (WrongValue 0) (unless y (WrongValue 0) (Ok tt))
    joined_tests true y = refl
    joined_tests false y = refl

module _ (file : List ℕ) where
  element : (j : ℕ) → DecidedBy (element_causes file j) (element_test file j)
  unfolding element_test
  element j =
      test_before _ _ (eqb (kind_of (word_at file j)) 1) (WrongKind j) _ (equal (WrongKind j) _ 1) λ e.
      test_before _ _ (eqb (kind_of (word_at file (j + 1))) 2) (WrongKind (j + 1)) _ (equal (WrongKind (j + 1)) _ 2) λ f.
      test_before _ _ (eqb (kind_of (word_at file (j + 2))) 3) (WrongKind (j + 2)) _ (equal (WrongKind (j + 2)) _ 3) λ g.
      one (ltb (element_at file j) P) (WrongValue j) (P ≤ element_at file j) (ltb-false (element_at file j) P)
      (λ h l. (let below : element_at file j < P = ltb-true (element_at file j) P h in omega (arith, below, l)))

  elements : (n : ℕ) → DecidedBy (elements_causes file n) (elements_test file 1 n)
  elements n = decided (elements_causes file n) (elements_test file 1 n) λ r. (
    λ e.
        let f = found_refused file 1 n r e in
        (f.0, f.1, f.2, ((element (1 + 3 * f.0)).refuses_exactly r).0 f.3),
    λ c. first_refused file 1 n c.0 r c.1 c.2 (((element (1 + 3 * c.0)).refuses_exactly r).1 c.3),
  )

  unpacking : (Room : Type 0) (room : Bool)
      → DecidedBy (by DestinationLength (Room → ⊥)) (unless room DestinationLength (Ok tt))
      → DecidedBy (unpack_causes file Room) (unless (leb 4 (length file)) FileLength
      (after (count_test (word_at file 0))
      (unless (eqb (length file) (file_size (batches_in file))) FileLength
      (unless room DestinationLength
      (elements_test file 1 (element_count (batches_in file)))))))
  unpacking Room room d =
      let n = file_size (batches_in file) in
      test_before _ _ (leb 4 (length file)) FileLength _
      (one (leb 4 (length file)) FileLength (length file < 4) (leb-false 4 (length file))
      (λ e l. omega (arith, leb-true 4 (length file) e, l))) λ e.
      tests_after_lem _ _ (count_test (word_at file 0)) _ (count (word_at file 0)) λ f.
      test_before _ _ (eqb (length file) n) FileLength _ (equal FileLength (length file) n) λ g.
      test_before _ _ room DestinationLength _ d λ h. elements (element_count (batches_in file))

  unpack : (size : ℕ) → DecidedBy (unpack_causes file (size ≡ 12 * batches_in file + 4)) (unpack_test file size)
  unfolding unpack_test
  unpack size =
      let n = 12 * batches_in file + 4 in
      unpacking (size ≡ n) (eqb size n) (equal DestinationLength size n)

  unpack_called : (taps size : ℕ)
      → DecidedBy (unpack_causes file ((size ≡ 4) × (taps ≡ 12 * batches_in file + 4))) (unpack_call_test file taps size)
  unfolding unpack_call_test
  unpack_called taps size =
      let n = 12 * batches_in file + 4 in
      unpacking ((size ≡ 4) × (taps ≡ n)) (eqb size 4 && eqb taps n) (both_equal DestinationLength size 4 taps n)

-- ---- the words of the calls

-- what decides the tests t decides the word that tells of them
said : (causes : Refusal → Type 0) (t : Answer) (n code : ℕ) → DecidedBy causes t → code ≡ tests_code (with_value t n)
    → AnswerEnds RefusalInBits t → (t ≡ Ok tt → n < 2 ^ 28) → SaidFor causes code
said causes t n code d e b l =
    let zero = accepted_exactly t n code e b l in record {
      refuses_exactly = λ r.
          let told = told_exactly t n code r e b l in
          (λ s. (d.refuses_exactly r).0 (told.0 s), λ c. told.1 ((d.refuses_exactly r).1 c));
      accepts_exactly =
          (λ z. d.accepts_exactly.0 (zero.0 z), λ none. zero.1 (d.accepts_exactly.1 none));
    }

-- without tests that are counted
module _ (causes : Refusal → Type 0) (t : Answer) (code : ℕ) (d : DecidedBy causes t)
    (b : AnswerEnds RefusalInBits t) where
  answer_said : code ≡ answer_code t → SaidFor causes code
  answer_said e = said causes t 0 code d (e ∙ answer_none t) b (λ a. lit< tt)

  digest_said : (words : List ℕ) → code ≡ words_code (with_value t words) → SaidFor causes code
  digest_said words e = said causes t 0 code d (e ∙ digest_none t words) b (λ a. lit< tt)

  state_said : (cells : List ℕ) → code ≡ words_code (with_value t cells) → SaidFor causes code
  state_said cells e = said causes t 0 code d (e ∙ state_none t cells) b (λ a. lit< tt)

prepare_called : (raw old new : List ℕ) (code : ℕ) → PrepareCall raw old code new
    → SaidFor (prepare_causes raw (length old)) code
prepare_called raw old new code h =
    answer_said (prepare_causes raw (length old)) h.answer code (prepare raw old new h.answer h.prepares)
    (bits.prepare_bits raw old new h.answer h.prepares) h.coded

hash_word : (T s output output' : List ℕ) (code : ℕ) → length s ≡ 8
    → HandsOver (hash_call T s (length output)) code output output'
    → SaidFor (hash_call_causes T s (length output)) code
unfolding hash_call
hash_word T s output output' code eight h =
    let size = length output in
    state_said (hash_call_causes T s size) (hash_call_test T s size) code (hash_called T s size)
    (bits.hash_bits T s size eight) _ h.coded

chain_word : (T w output output' : List ℕ) (code : ℕ) → HandsOver (chain_call T w (length output)) code output output'
    → SaidFor (written_causes T w (length output ≡ 4)) code
unfolding chain_call
chain_word T w output output' code h =
    let size = length output in
    digest_said (written_causes T w (size ≡ 4)) (chain_call_test T w size) code (chain_called T w size)
    (bits.chain_bits T w size) _ h.coded

build_word : (T w rows rows' output output' : List ℕ) (code : ℕ) → BuildCall T w code rows rows' output output'
    → SaidFor (written_causes T w ((length output ≡ 4) × RowsFit w (length rows))) code
unfolding build_call
build_word T w rows rows' output output' code h =
    let size = length output in
    digest_said (written_causes T w ((size ≡ 4) × RowsFit w (length rows))) (build_call_test T w (length rows) size) code
    (build_called T w (length rows) size) (bits.build_bits T w (length rows) size) _ h.four.coded

check_word : (T t claim : List ℕ) (c code : ℕ) → length claim ≡ 4 → code ≡ tests_code (check_answer T t claim c)
    → SaidFor (check_causes T t claim c) code
unfolding check_answer
check_word T t claim c code four e =
    said (check_causes T t claim c) (check_test T t claim c) _ code (check T t claim c) e
    (bits.check_bits T t claim c four) λ a.
    let o = (check_inputs T t claim c a).0.opening in
    bits.tests_bits (trace_word_batches (length t)) c o.permitted o.low o.high

read_off_word : (T t claim taps taps' : List ℕ) (c code : ℕ) → length claim ≡ 4
    → ReadOffCall T t claim c code taps taps' → SaidFor (read_off_causes T t claim c (length taps)) code
unfolding read_off_answer
read_off_word T t claim taps taps' c code four h =
    let size = length taps in
    said (read_off_causes T t claim c size) (read_off_test T t claim c size) _ code (read_off T t claim c size) h.coded
    (bits.read_off_bits T t claim c four size) λ a.
    let o = (read_off_inputs T t claim c size a).1.opening in
    bits.tests_bits (trace_word_batches (length t)) c o.permitted o.low o.high

edit_word : (T t claim : List ℕ) (c n : ℕ) (new t' output output' : List ℕ) (code : ℕ) → length claim ≡ 4
    → length new ≡ 4 → EditCall T t claim c n new code t' output output'
    → SaidFor (edit_call_causes T t claim c n new (length output)) code
unfolding edit_call
edit_word T t claim c n new t' output output' code four four' h =
    let size = length output in
    digest_said (edit_call_causes T t claim c n new size) (edit_call_test T t claim c n new size) code
    (edit_called T t claim c n new size) (bits.edit_bits T t claim c four n new size four') _ h.four.coded

unhash_word : (T s taps taps' : List ℕ) (code : ℕ) → length s ≡ 12 → UnhashCall T s code taps taps'
    → SaidFor (unhash_call_causes T s (length taps)) code
unhash_word T s taps taps' code twelve h =
    let size = length taps in
    answer_said (unhash_call_causes T s size) (unhash_call_test T s size) code (unhash_called T s twelve size)
    (bits.unhash_bits T s size twelve) h.coded

pack_word : (w claim file file' : List ℕ) (code : ℕ) → length claim ≡ 4 → PackCall w claim file code file'
    → SaidFor (pack_causes w claim (length file)) code
pack_word w claim file file' code four h =
    let size = length file in
    answer_said (pack_causes w claim size) (pack_test w claim size) code (pack w claim size)
    (bits.pack_bits w claim size four) h.coded

pack_short_word : (w claim file file' : List ℕ) (code : ℕ) → length claim ≡ 4
    → PackShortCall w claim file code file' → SaidFor (pack_short_causes w claim (length file)) code
pack_short_word w claim file file' code four h =
    let size = length file in
    answer_said (pack_short_causes w claim size) (pack_short_test w claim size) code (pack_short w claim size)
    (bits.pack_short_bits w claim size four) h.coded

unpack_word : (file taps taps' claim claim' : List ℕ) (code : ℕ) → UnpackCall file code taps taps' claim claim'
    → SaidFor (unpack_causes file ((length claim ≡ 4) × TapsFit file (length taps))) code
unfolding unpack_call
unpack_word file taps taps' claim claim' code h =
    let size = length claim in
    digest_said (unpack_causes file ((size ≡ 4) × TapsFit file (length taps))) (unpack_call_test file (length taps) size)
    code (unpack_called file (length taps) size) (bits.unpack_bits file (length taps) size) _ h.four.coded

-- ---- all
pub turned_back : TurnedBack
turned_back = record {
  table = table;
  prepare = prepare;
  prepare_called = prepare_called;
  hash = hash;
  hash_called = hash_word;
  chain = chain;
  chain_called = chain_word;
  build = build;
  build_called = build_word;
  check = check;
  check_called = check_word;
  read_off = read_off;
  read_off_called = read_off_word;
  edit = edit;
  edit_called = edit_word;
  unhash = unhash;
  unhash_called = unhash_word;
  pack = pack;
  pack_called = pack_word;
  pack_short = pack_short;
  pack_short_called = pack_short_word;
  unpack = unpack;
  unpack_called = unpack_word;
}
