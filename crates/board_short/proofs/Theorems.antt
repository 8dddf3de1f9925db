-- The short edition's promises (request 7): what is written is read, an accepted file is written again byte for byte, a
-- claim with its list has one short file; its length; which fault a refusal names; no file is of both editions.
-- Assumes nothing.
use mathlib.Core.Path.{◌≡◌, refl, sym, ap, ◌∙◌}
use mathlib.Core.Bool.{false, true≢false}
use mathlib.Core.List.{List, ◌++◌}
use mathlib.Core.Logic.{◌↔◌}
use Prim.Native.Nat.{ℕ, ◌+◌, ◌*◌, ◌^◌, ◌≤◌, ◌<◌}
use native.Mathlib.Decide.{dec_lt}
use native.Mathlib.Omega.{arith}
use borrow.Author.Tests.{eq-eqb, ne_eqb, eqb-true, eqb-false, le-leb, lt-leb, leb-true, leb-false}
use lib.Dec.{eqb, leb}
use lib.ListN.{length, length-append}
use Rattle.std.specs.Prelude.{Ok, Err}
use Rattle.lists.specs.Lists.{cell}
use Rattle.numbers.specs.Numbers.{tap_words, tap_word_batches}
use Rattle.refusals.specs.Refusals.{told, value_of}
use Rattle.refusals.specs.Answers.{after}
use Rattle.refusals.specs.declared.Refusal.{Refusal}
use Rattle.refusals.specs.declared.Refusal.TheVariants.{DestinationLength, FileLength, WrongKind, WrongValue}
use Rattle.refusals.specs.declared.Refusal.TheVariants.{LongElement}
use Rattle.refusals.proofs.Laws.{AnswerEnds, unless_ends, after_ends, refusal_ends, ends_refusal}
use Rattle.board_words.specs.Words.{kind_of, word_at, AllBytes}
use Rattle.board_words.specs.Elements.{element_at, IsElement}
use Rattle.board.specs.Board.{element_count, file_size, spare_in, count_test, unpack_test, unpack_answer}
use Rattle.board_short_words.specs.Short.{short_words, spelled}
use Rattle.board_short_read.specs.Reading.{first_word, shorts_test, ElementFault, no_first, first_kind, no_second}
use Rattle.board_short_read.specs.Reading.{second_kind, no_third, third_kind, too_large, needless}
use Rattle.board_words.proofs.Laws.{words_spell}
use Rattle.board_short_words.proofs.Words.{one_word, three_words, needed_most, needed_least, needed_whole}
use Rattle.board_short_read.proofs.Tests.{Stops, element, tail, stops, first_refused, bytes_after, faulty}
use Rattle.board_short_read.proofs.Tests.{fault_refused}
use Rattle.board_short.specs.ShortBoard.{short_file_of, short_file_size, pack_short_test, packed_short, mark_in}
use Rattle.board_short.specs.ShortBoard.{short_spare_in, short_taps_in, short_claim_in, short_count_test}
use Rattle.board_short.specs.ShortBoard.{unpack_short_test}
use Rattle.board_short.specs.ShortBoard.{unpack_short_answer, ReadsOn, ThreeForOne, FirstFault, no_count, count_kind}
use Rattle.board_short.specs.ShortBoard.{count_value, no_room, short_batches_in}
use Rattle.board_short.specs.ShortBoard as faults
use Rattle.board_short.proofs.Answers.{pack_accepted, pack_complete, count_accepted, counts}
use Rattle.board_short.proofs.Answers.{unpack_elements, unpack_accepted, unpack_complete, unpack_returns}
use Rattle.board_short.proofs.Answers.{returned, from_room, CountFault, kind, value, count_faulty}
use Rattle.board_short.proofs.Answers.{count_fault_refused}
use Rattle.board_short.proofs.Files as files
use Rattle.board_short.proofs.Round.{packed_board, packed_claim, packed_taps, board_packs, board_canonical}
use Rattle.board_short.proofs.Round.{taps_length}

-- ---- there and back

-- what the writer accepts is read back: claim and taps
pub unpack_packed : (taps claim : List ℕ) (size : ℕ) → length claim ≡ 4
    → pack_short_test taps claim size ≡ Ok tt
    → (unpack_short_answer (packed_short taps claim) (length taps) ≡ Ok claim)
    × (short_taps_in (packed_short taps claim) ≡ taps)
unfolding packed_short
unpack_packed taps claim size c e =
    let h = pack_accepted taps claim size e in
    let k = tap_word_batches (length taps) in
    let file : List ℕ = short_file_of taps claim k in
    let board = packed_board taps claim k h.permitted h.taps_size h.taps_canonical c h.claim_canonical in (
      ap (unpack_short_answer file) h.taps_size
          ∙ unpack_returns file (tap_words k) (unpack_complete file k board)
          ∙ ap (λ s. Ok s)
          (packed_claim taps claim k h.permitted h.taps_size h.taps_canonical c h.claim_canonical),
      packed_taps taps claim k h.permitted h.taps_size h.taps_canonical c h.claim_canonical,
    )

-- what the reader accepts is written to the same bytes
pub pack_unpack : (file : List ℕ) (size : ℕ) (d : List ℕ) → AllBytes file → unpack_short_answer file size ≡ Ok d
    → (pack_short_test (short_taps_in file) d (length file) ≡ Ok tt)
    × (packed_short (short_taps_in file) d ≡ file)
unfolding packed_short
pack_unpack file size d bytes e =
    let r = returned file size d e in
    let h = (unpack_accepted file size r.0).0 in
    let canonical = board_canonical file h in
    let k-is : tap_word_batches (length (short_taps_in file)) ≡ short_batches_in file = omega (arith, taps_length file) in
    let same = board_packs file h bytes in
    let size_is : length file ≡ short_file_size (short_taps_in file) (short_claim_in file) =
    ap length (sym same) ∙ files.file_length (short_taps_in file) (short_claim_in file) (short_batches_in file) in (
      pack_complete (short_taps_in file) d (length file) (short_batches_in file) (record {
        permitted = h.permitted;
        taps_size = taps_length file;
        size_is = rw r.1 at size_is;
        claim_canonical = rw r.1 at canonical.0;
        taps_canonical = canonical.1;
      }),
      rw (sym r.1, k-is) same,
    )

-- so two accepted files that hold the same claim and taps are equal
pub one_file : (f g : List ℕ) (m n : ℕ) (d : List ℕ) → AllBytes f → AllBytes g → unpack_short_answer f m ≡ Ok d
    → unpack_short_answer g n ≡ Ok d → short_taps_in f ≡ short_taps_in g → f ≡ g
one_file f g m n d bf bg ef eg t =
    sym (pack_unpack f m d bf ef).1 ∙ ap (λ s. packed_short s d) t ∙ (pack_unpack g n d bg eg).1

-- the room that a reader accepted is that of the taps
pub accepted_room : (file : List ℕ) (size : ℕ) (d : List ℕ) → unpack_short_answer file size ≡ Ok d
    → size ≡ length (short_taps_in file)
accepted_room file size d e = (unpack_accepted file size (returned file size d e).0).1 ∙ sym (taps_length file)

-- ---- lengths

pub packed_length : (taps claim : List ℕ) → length (packed_short taps claim) ≡ short_file_size taps claim
unfolding packed_short
packed_length taps claim = files.file_length taps claim (tap_word_batches (length taps))

module _ (taps claim : List ℕ) (k : ℕ) (c : length claim ≡ 4) (t : length taps ≡ tap_words k) where
  elements : length (claim ++ taps) ≡ element_count k
  elements = length-append claim taps ∙ omega arith

  pub never_longer : short_file_size taps claim ≤ file_size k
  never_longer = omega (arith, needed_most (claim ++ taps), elements)

  pub all_small : ((i : ℕ) → i < element_count k → cell (claim ++ taps) i < 2 ^ 30)
      → short_file_size taps claim ≡ 4 + 4 * element_count k
  all_small h = omega (arith, needed_least (claim ++ taps) (λ i l. h i (omega (arith, elements))), elements)

  pub none_small : ((i : ℕ) → i < element_count k → 2 ^ 30 ≤ cell (claim ++ taps) i)
      → short_file_size taps claim ≡ file_size k
  none_small h = omega (arith, needed_whole (claim ++ taps) (λ i l. h i (omega (arith, elements))), elements)

-- ---- refusals: the fault that comes first

counted : (file : List ℕ) (size : ℕ) (r : Refusal) → 4 ≤ length file → CountFault (word_at file 0) r
    → FirstFault file size r
counted file size r four (kind n e) = count_kind four n e
counted file size r four (value z n e) = count_value four z n e

walked : (file : List ℕ) (size k : ℕ) (r : Refusal) → ReadsOn file size k → Stops file 1 (element_count k) r
    → FirstFault file size r
walked file size k r on (element i l b q) = faults.element k i on l b (faulty file (first_word file 1 i) r q)
walked file size k r on (tail b q f) = faults.tail k on b q f

module _ (file : List ℕ) (size : ℕ) where
  room_faults : 4 ≤ length file → short_count_test (word_at file 0) ≡ Ok tt
      → AnswerEnds (FirstFault file size) (from_room file size)
  unfolding short_batches_in
  room_faults four g =
      let Q = FirstFault file size in
      let k = short_batches_in file in
      let w = count_accepted (word_at file 0) g in
      unless_ends Q (eqb size (tap_words k)) DestinationLength _
      (λ h. no_room four k w.1 w.0 (eqb-false _ _ h) refl) λ h.
      let on : ReadsOn file size k = record { four = four; permitted = w.1; word = w.0; room = eqb-true _ _ h } in
      refusal_ends Q (shorts_test file 1 (element_count k))
      (λ s q. walked file size k s on (stops file 1 (element_count k) s q))

  count_faults : 4 ≤ length file → AnswerEnds (FirstFault file size) (short_count_test (word_at file 0))
  count_faults four =
      refusal_ends (FirstFault file size) (short_count_test (word_at file 0))
      (λ s g. counted file size s four (count_faulty (word_at file 0) s g))

  faults_all : AnswerEnds (FirstFault file size) (unpack_short_test file size)
  unfolding unpack_short_test
  faults_all =
      let Q = FirstFault file size in
      unless_ends Q (leb 4 (length file)) FileLength (after (short_count_test (word_at file 0)) (from_room file size))
      (λ f. no_count (leb-false _ _ f) refl)
      (λ f. after_ends Q (short_count_test (word_at file 0)) (from_room file size) (count_faults (leb-true _ _ f))
      (room_faults (leb-true _ _ f)))

  pub first_fault : (r : Refusal) → unpack_short_test file size ≡ Err r → FirstFault file size r
  first_fault r e = ends_refusal (FirstFault file size) (unpack_short_test file size) r faults_all e

pub fault_first : (file : List ℕ) (size : ℕ) (r : Refusal) → FirstFault file size r
    → unpack_short_test file size ≡ Err r
unfolding unpack_short_test
fault_first file size r (no_count h e) = rw (lt-leb _ _ h, e)
fault_first file size r (count_kind h n e) =
    rw (le-leb _ _ h, count_fault_refused (word_at file 0) r (kind n e))
fault_first file size r (count_value h z n e) =
    rw (le-leb _ _ h, count_fault_refused (word_at file 0) r (value z n e))
fault_first file size r (no_room h k p w n e) =
    let c = counts file k w p in
    rw (le-leb _ _ h, c.1, c.0, ne_eqb _ _ n, e)
fault_first file size r (faults.element k i on l b q) =
    unpack_elements file size k on
    ∙ first_refused file 1 (element_count k) i r l b (fault_refused file (first_word file 1 i) r q)
fault_first file size r (faults.tail k on b q e) =
    unpack_elements file size k on ∙ bytes_after file 1 (element_count k) b q ∙ ap Err (sym e)

-- 18 is said of an element alone, and of no other fault of it
module _ (file : List ℕ) (size j : ℕ) where
  not_18 : (r : Refusal) → eqb (told r).number 18 ≡ false → LongElement j ≡ r → ⊥
  not_18 r o e = true≢false (ap (λ x. eqb (told x).number 18) e ∙ o)

  in_element : (i : ℕ) → ElementFault file i (LongElement j)
      → (j ≡ i) × (4 * i + 12 ≤ length file) × IsElement file i × (element_at file i < 2 ^ 30)
  in_element i (no_first h e) = absurd (not_18 FileLength refl e)
  in_element i (first_kind h n m e) = absurd (not_18 (WrongKind i) refl e)
  in_element i (no_second h a l e) = absurd (not_18 FileLength refl e)
  in_element i (second_kind h a n e) = absurd (not_18 (WrongKind (i + 1)) refl e)
  in_element i (no_third h a b l e) = absurd (not_18 FileLength refl e)
  in_element i (third_kind h a b n e) = absurd (not_18 (WrongKind (i + 2)) refl e)
  in_element i (too_large h a b c l e) = absurd (not_18 (WrongValue i) refl e)
  in_element i (needless h is low e) = (ap (λ r. value_of (told r).place) e, h, is, low)

  three_for_one : FirstFault file size (LongElement j) → ThreeForOne file size j
  three_for_one (no_count h e) = absurd (not_18 FileLength refl e)
  three_for_one (count_kind h n e) = absurd (not_18 (WrongKind 0) refl e)
  three_for_one (count_value h z n e) = absurd (not_18 (WrongValue 0) refl e)
  three_for_one (no_room h k p w n e) = absurd (not_18 DestinationLength refl e)
  three_for_one (faults.element k i on l b q) =
      let c = in_element (first_word file 1 i) q in
      record {
        k = k;
        i = i;
        reads_on = on;
        within = l;
        before = b;
        first = c.0;
        whole = rw c.0 c.1;
        element = rw c.0 c.2;
        low = rw c.0 c.3;
      }
  three_for_one (faults.tail k on b q e) = absurd (not_18 FileLength refl e)

  pub eighteen : (unpack_short_test file size ≡ Err (LongElement j)) ↔ ThreeForOne file size j
  eighteen = (
    λ e. three_for_one (first_fault file size (LongElement j) e),
    λ t.
        let at = t.first in
        fault_first file size (LongElement j)
        (faults.element t.k t.i t.reads_on t.within t.before
        (rw (sym at) (needless t.whole t.element t.low refl))),
  )

-- ---- the editions: word 0 with the mark is no full file's, and without it no short file's
module _ (file : List ℕ) (size : ℕ) (four : 4 ≤ length file) (zero-kind : kind_of (word_at file 0) ≡ 0) where
  pub full_refuses : mark_in (word_at file 0) ≡ 1 → unpack_answer file size ≡ Err (WrongValue 0)
  unfolding unpack_answer unpack_test count_test
  full_refuses e =
      let spare : spare_in (word_at file 0) ≡ 0 → ⊥ = λ z. omega (arith, z, e) in
      rw (le-leb _ _ four, eq-eqb _ _ zero-kind, ne_eqb _ _ spare)

  pub short_refuses : mark_in (word_at file 0) ≡ 0 → unpack_short_answer file size ≡ Err (WrongValue 0)
  unfolding unpack_short_answer unpack_short_test short_count_test
  short_refuses e =
      let mark : mark_in (word_at file 0) ≡ 1 → ⊥ = λ z. omega (arith, z, e) in
      rw (le-leb _ _ four, eq-eqb _ _ zero-kind, ne_eqb _ _ mark)

  -- nor with a bit among 20 to 28
  pub spare_refused : mark_in (word_at file 0) ≡ 1 → (short_spare_in (word_at file 0) ≡ 0 → ⊥)
      → unpack_short_answer file size ≡ Err (WrongValue 0)
  unfolding unpack_short_answer unpack_short_test short_count_test
  spare_refused e n = rw (le-leb _ _ four, eq-eqb _ _ zero-kind, eq-eqb _ _ e, ne_eqb _ _ n)

-- ---- no element loses a bit: the payloads of its words spell it
pub no_bit_lost : (x : ℕ) → x < 2 ^ 64 → spelled 0 (short_words x) ≡ x
no_bit_lost x h = go (dec_lt x (2 ^ 30))
  where
    go : Dec (x < 2 ^ 30) → spelled 0 (short_words x) ≡ x
    go (yes l) = rw (one_word x l) (omega arith)
    go (no l) = rw (three_words x (omega arith)) (omega (arith, words_spell x h))
