-- Request 8: what a converter answers and leaves, beside the reader of the one edition and the writer of the other, and
-- the same by the words and buffers of the calls. From the theorems of crates `board_edition`,
-- `board_to_short` and `board_to_full`.
-- Assumes nothing.
use mathlib.Core.Path.{◌≡◌, refl, sym, ap, ap₂, ◌∙◌}
use mathlib.Core.Bool.{true, false}
use mathlib.Core.List.{List}
use mathlib.Core.Logic.{◌↔◌}
use Prim.Native.Nat.{ℕ, ◌≤◌, ◌<◌}
use native.Mathlib.Decide.{ℕ_discrete}
use native.Mathlib.Omega.{arith}
use borrow.Author.Tests.{eq-eqb, ne_eqb, eqb-true, eqb-false, le-leb, lt-leb}
use lib.Dec.{eqb}
use lib.ListN.{length}
use Rattle.std.specs.Prelude.{Ok, Err}
use Rattle.numbers.specs.Numbers.{tap_words, tap_word_batches}
use Rattle.refusals.specs.Answers.{Answer, unless, with_value, leaves}
use Rattle.refusals.specs.declared.Refusal.{Refusal}
use Rattle.refusals.specs.declared.Refusal.TheVariants.{DestinationLength, FileLength, WrongKind, WrongValue}
use Rattle.refusals.proofs.Laws.{not_accepted, value_refused}
use Rattle.board_words.specs.Words.{kind_of, word_at, AllBytes}
use Rattle.board_words.proofs.Round.{length_elements}
use Rattle.board.specs.Board.{file_size, pack_test, packed, pack_leaves, batches_in, claim_in, taps_in, count_test}
use Rattle.board.specs.Board.{unpack_test}
use Rattle.board.specs.Board.{unpack_answer, unpack_leaves}
use Rattle.board.proofs.Answers as board_answers
use Rattle.board.proofs.Round as board_round
use Rattle.board.proofs.Theorems as board
use Rattle.board_short_read.proofs.Round.{length_shorts}
use Rattle.board_short.specs.ShortBoard.{short_file_size, pack_short_test, packed_short, pack_short_leaves}
use Rattle.board_short.specs.ShortBoard.{short_claim_in}
use Rattle.board_short.specs.ShortBoard.{short_taps_in, short_count_test, unpack_short_test, unpack_short_answer}
use Rattle.board_short.specs.ShortBoard.{unpack_short_leaves, short_batches_in}
use Rattle.board_short.proofs.Answers as short_answers
use Rattle.board_short.proofs.Round as short_round
use Rattle.board_short.proofs.Theorems as short
use Rattle.board_edition.specs.Edition.{full_mark, short_mark, HasMark, ConverterFault, ConverterAnswers}
use Rattle.board_edition.proofs.Answers as edition
use Rattle.board_edition.proofs.Answers.{not_full, not_short}
use Rattle.board_edition.proofs.Converters as converters
use Rattle.board_edition.proofs.Converters.{Not, Reader}
use Rattle.board_to_short.specs.ToShort.{to_short_test, to_short_leaves}
use Rattle.board_to_short.proofs.Answers as to_short_tests
use Rattle.board_to_short.proofs.Theorems as to_short
use Rattle.board_to_full.specs.ToFull.{to_full_test, to_full_leaves, NoFullForm}
use Rattle.board_to_full.proofs.Answers as to_full_tests
use Rattle.board_to_full.proofs.Theorems as to_full
use Rattle.call_results.specs.Code.{refusal_code, answer_code}
use Rattle.call_results.proofs.Bits.{zero_accepts}
use Rattle.call_answers.specs.Calls.{PackCall, UnpackCall, PackShortCall, UnpackShortCall, ToShortCall, ToFullCall}
use Rattle.call_answers.proofs.Endings.Unpack.{unpack_ends}
use Rattle.call_answers.proofs.Endings.UnpackShort.{unpack_short_ends}
use Rattle.call_answers.proofs.Theorems as bits
use Rattle.demands.specs.Request8.{FitsShort, FitsFull, Request8}
use Rattle.demands.proofs.Called.{unpacked}
use Rattle.demands.proofs.Demand2.{demand_2}
use Rattle.demands.proofs.Request7.{taps_left, reader_accepts, reader_hands, request_7}

-- ---- the readers, lent room for the taps
module _ (file : List ℕ) where
  abbrev room : ℕ
  room = tap_words (batches_in file)

  abbrev short_room : ℕ
  short_room = tap_words (short_batches_in file)

  full_no_count : length file < 4 → unpack_test file room ≡ Err FileLength
  unfolding unpack_test
  full_no_count h = rw (lt-leb _ _ h)

  full_kind : 4 ≤ length file → (kind_of (word_at file 0) ≡ 0 → ⊥) → unpack_test file room ≡ Err (WrongKind 0)
  unfolding unpack_test count_test
  full_kind h n = rw (le-leb _ _ h, ne_eqb _ _ n)

  full_other : HasMark file short_mark → unpack_test file room ≡ Ok tt → ⊥
  unfolding unpack_answer
  full_other h e =
      not_accepted (WrongValue 0)
      (sym (value_refused (unpack_test file room) _ (WrongValue 0)
      (short.full_refuses file room h.four h.kind h.mark_is)) ∙ e)

  full_reader : Reader file short_mark (unpack_test file room)
  full_reader = record {
    no_count = full_no_count;
    count_kind = full_kind;
    other_edition = full_other;
    never_8 =
        unpack_ends (Not 8) file (record { by_length = refl; by_kind = λ j h. refl; by_value = λ j h. refl }) room
        (λ n. absurd (n refl));
    never_19 =
        unpack_ends (Not 19) file (record { by_length = refl; by_kind = λ j h. refl; by_value = λ j h. refl }) room
        (λ n. refl);
  }

  short_no_count : length file < 4 → unpack_short_test file short_room ≡ Err FileLength
  unfolding unpack_short_test
  short_no_count h = rw (lt-leb _ _ h)

  short_kind : 4 ≤ length file → (kind_of (word_at file 0) ≡ 0 → ⊥)
      → unpack_short_test file short_room ≡ Err (WrongKind 0)
  unfolding unpack_short_test short_count_test
  short_kind h n = rw (le-leb _ _ h, ne_eqb _ _ n)

  short_other : HasMark file full_mark → unpack_short_test file short_room ≡ Ok tt → ⊥
  unfolding unpack_short_answer
  short_other h e =
      not_accepted (WrongValue 0)
      (sym (value_refused (unpack_short_test file short_room) _ (WrongValue 0)
      (short.short_refuses file short_room h.four h.kind h.mark_is)) ∙ e)

  short_reader : Reader file full_mark (unpack_short_test file short_room)
  short_reader = record {
    no_count = short_no_count;
    count_kind = short_kind;
    other_edition = short_other;
    never_8 =
        unpack_short_ends (Not 8) file
        (record { by_length = refl; by_kind = λ j h. refl; by_value = λ j h. refl; by_long = λ j h. refl }) short_room
        (λ n. absurd (n refl));
    never_19 =
        unpack_short_ends (Not 19) file
        (record { by_length = refl; by_kind = λ j h. refl; by_value = λ j h. refl; by_long = λ j h. refl }) short_room
        (λ n. refl);
  }

-- ---- every file

full_not_short : full_mark ≡ short_mark → ⊥
full_not_short e = omega (arith, e)

short_not_full : short_mark ≡ full_mark → ⊥
short_not_full e = omega (arith, e)

-- the length of the full file that is written
full_length : (file : List ℕ) → length (packed (short_taps_in file) (short_claim_in file)) ≡ file_size (short_batches_in file)
unfolding packed short_claim_in
full_length file =
    let taps = short_round.taps_length file in
    let k : tap_word_batches (length (short_taps_in file)) ≡ short_batches_in file = omega (arith, taps) in
    let t : length (short_taps_in file) ≡ tap_words (tap_word_batches (length (short_taps_in file))) = omega (arith, taps) in
    board.file_length (short_taps_in file) (short_claim_in file) (tap_word_batches (length (short_taps_in file)))
    (length_shorts file 1 4) t
    ∙ ap file_size k

module _ (file : List ℕ) (size : ℕ) where
  abbrev short_bytes : ℕ
  short_bytes = short_file_size (taps_in file) (claim_in file)

  abbrev full_bytes : ℕ
  full_bytes = file_size (short_batches_in file)

  fits_short : eqb size short_bytes ≡ true → FitsShort file size
  fits_short e = eqb-true _ _ e ∙ sym (short.packed_length (taps_in file) (claim_in file))

  no_short : eqb size short_bytes ≡ false → FitsShort file size → ⊥
  no_short e f = eqb-false _ _ e (f ∙ short.packed_length (taps_in file) (claim_in file))

  fits_full : eqb size full_bytes ≡ true → FitsFull file size
  fits_full e = eqb-true _ _ e ∙ sym (full_length file)

  no_full : eqb size full_bytes ≡ false → FitsFull file size → ⊥
  no_full e f = eqb-false _ _ e (f ∙ full_length file)

  to_short_answers : ConverterAnswers file short_mark (unpack_answer file (room file)) ⊥ (FitsShort file size)
      (to_short_test file size)
  unfolding to_short_test unpack_answer
  to_short_answers =
      converters.answers file full_mark short_mark (not_full (word_at file 0)) full_not_short (unpack_test file (room file))
      (claim_in file) (eqb size short_bytes) (FitsShort file size) fits_short no_short _ (full_reader file)
      ⊥ (no λ f. f) (λ f. absurd f) (λ f. absurd f)
      (λ h n. to_short_tests.as_reader file size (edition.accepts file full_mark h))

  to_full_answers : ConverterAnswers file full_mark (unpack_short_answer file (short_room file)) (NoFullForm file)
      (FitsFull file size) (to_full_test file size)
  unfolding to_full_test unpack_short_answer
  to_full_answers =
      converters.answers file short_mark full_mark (not_short (word_at file 0)) short_not_full
      (unpack_short_test file (short_room file)) (short_claim_in file) (eqb size full_bytes) (FitsFull file size)
      fits_full no_full _ (short_reader file) (NoFullForm file) (to_full_tests.form file) (to_full_tests.its_mark file)
      (to_full_tests.without file size) (to_full_tests.as_reader file size)

-- ---- what Unpack leaves where it accepts
full_left : (file old : List ℕ) → unpack_test file (length old) ≡ Ok tt → unpack_leaves file old ≡ taps_in file
unfolding unpack_leaves
full_left file old e = ap (λ a. leaves a (taps_in file) old) e

-- ---- the converter answers and leaves what the writer does
to_short_writes : (file old taps d : List ℕ) → unpack_answer file (length taps) ≡ Ok d
    → (to_short_test file (length old) ≡ pack_short_test (unpack_leaves file taps) d (length old))
    × (to_short_leaves file old ≡ pack_short_leaves (unpack_leaves file taps) d old)
to_short_writes file old taps d e =
    let r = board_answers.returned file (length taps) d e in
    let list = sym (full_left file taps r.0) in
    let claim = r.1 in (
      to_short.as_writer file (length taps) r.0 (length old)
          ∙ ap₂ (λ t c. pack_short_test t c (length old)) list claim,
      to_short.left_as_writer file (length taps) r.0 old ∙ ap₂ (λ t c. pack_short_leaves t c old) list claim,
    )

to_full_writes : (file old taps d : List ℕ) → unpack_short_answer file (length taps) ≡ Ok d
    → (NoFullForm file → ⊥)
    → (to_full_test file (length old) ≡ pack_test (unpack_short_leaves file taps) d (length old))
    × (to_full_leaves file old ≡ pack_leaves (unpack_short_leaves file taps) d old)
to_full_writes file old taps d e formed =
    let r = short_answers.returned file (length taps) d e in
    let list = sym (taps_left file taps d e) in
    let claim = r.1 in (
      to_full.as_writer file (length taps) r.0 formed (length old)
          ∙ ap₂ (λ t c. pack_test t c (length old)) list claim,
      to_full.left_as_writer file (length taps) r.0 formed old ∙ ap₂ (λ t c. pack_leaves t c old) list claim,
    )

-- ---- a file that is accepted with n words of room is refused with 8 for any other room
by_room : (test : ℕ → Answer) (m n : ℕ) → test n ≡ Ok tt
    → ((m ≡ n → ⊥) → test m ≡ Err DestinationLength)
    → test m ≡ unless (eqb m n) DestinationLength (Ok tt)
by_room test m n e f = go (ℕ_discrete m n)
  where
    go : Dec (m ≡ n) → test m ≡ unless (eqb m n) DestinationLength (Ok tt)
    go (yes q) = rw (eq-eqb m n q) (ap test q ∙ e)
    go (no q) = rw (ne_eqb m n q) (f q)

full_by_room : (file : List ℕ) (m n : ℕ) → unpack_test file n ≡ Ok tt
    → unpack_test file m ≡ unless (eqb m n) DestinationLength (Ok tt)
full_by_room file m n e =
    let u = board_answers.unpack_accepted file n e in
    by_room (unpack_test file) m n e
    (λ q. board_answers.unpack_no_room file m (batches_in file) u.0 (λ s. q (s ∙ sym u.1)))

short_by_room : (file : List ℕ) (m n : ℕ) → unpack_short_test file n ≡ Ok tt
    → unpack_short_test file m ≡ unless (eqb m n) DestinationLength (Ok tt)
short_by_room file m n e =
    let u = short_answers.unpack_accepted file n e in
    by_room (unpack_short_test file) m n e
    (λ q. short_answers.unpack_no_room file m (short_batches_in file) u.0 (λ s. q (s ∙ sym u.1)))

-- ---- what was converted is read as the file was
module _ (file old : List ℕ) where
  -- an accepted file, and what is written of it
  module _ (e : to_short_test file (length old) ≡ Ok tt) where
    short_read : unpack_test file (length (taps_in file)) ≡ Ok tt
    short_read =
        let a = (to_short_answers file (length old)).accepts.0 e in
        ap (unpack_test file) (board_round.taps_length file) ∙ (board_answers.returned file (room file) a.0 a.1).0

    short_written : to_short_leaves file old ≡ packed_short (taps_in file) (claim_in file)
    unfolding to_short_leaves
    short_written = ap (λ a. leaves a (packed_short (taps_in file) (claim_in file)) old) e

    to_short_reads : (taps : List ℕ)
        → (unpack_short_answer (to_short_leaves file old) (length taps) ≡ unpack_answer file (length taps))
        × (unpack_short_leaves (to_short_leaves file old) taps ≡ unpack_leaves file taps)
    unfolding unpack_answer unpack_leaves unpack_short_answer unpack_short_leaves claim_in
    to_short_reads taps =
        let n = length (taps_in file) in
        let m = length taps in
        let written = packed_short (taps_in file) (claim_in file) in
        let packs = sym (to_short.as_writer file n short_read (length old)) ∙ e in
        let four = length_elements file 1 4 in
        let u = short.unpack_packed (taps_in file) (claim_in file) (length old) four packs in
        let r = short_answers.returned written n (claim_in file) u.0 in
        let tests = short_by_room written m n r.0 ∙ sym (full_by_room file m n short_read) in
        rw short_written
        (ap₂ (λ t d. with_value t d) tests r.1, ap₂ (λ t s. leaves t s taps) tests u.1)

  module _ (e : to_full_test file (length old) ≡ Ok tt) where
    full_read : unpack_short_test file (length (short_taps_in file)) ≡ Ok tt
    full_read =
        let a = (to_full_answers file (length old)).accepts.0 e in
        ap (unpack_short_test file) (short_round.taps_length file)
        ∙ (short_answers.returned file (short_room file) a.0 a.1).0

    full_written : to_full_leaves file old ≡ packed (short_taps_in file) (short_claim_in file)
    unfolding to_full_leaves
    full_written = ap (λ a. leaves a (packed (short_taps_in file) (short_claim_in file)) old) e

    to_full_reads : (taps : List ℕ)
        → (unpack_answer (to_full_leaves file old) (length taps) ≡ unpack_short_answer file (length taps))
        × (unpack_leaves (to_full_leaves file old) taps ≡ unpack_short_leaves file taps)
    unfolding unpack_answer unpack_leaves unpack_short_answer unpack_short_leaves short_claim_in
    to_full_reads taps =
        let n = length (short_taps_in file) in
        let m = length taps in
        let written = packed (short_taps_in file) (short_claim_in file) in
        let formed = ((to_full_answers file (length old)).accepts.0 e).2 in
        let packs = sym (to_full.as_writer file n full_read formed (length old)) ∙ e in
        let four = length_shorts file 1 4 in
        let u = board.unpack_packed (short_taps_in file) (short_claim_in file) (length old) four packs in
        let r = board_answers.returned written n (short_claim_in file) u.0 in
        let tests = full_by_room written m n r.0 ∙ sym (short_by_room file m n full_read) in
        rw full_written
        (ap₂ (λ t d. with_value t d) tests r.1, ap₂ (λ t s. leaves t s taps) tests u.1)

-- ---- there and back

-- what is read as a full file was has a full form
has_form : (full short d : List ℕ) → unpack_test full (length (taps_in full)) ≡ Ok tt
    → unpack_short_answer short (length (taps_in full)) ≡ Ok d → NoFullForm short → ⊥
has_form full short d e r h =
    let most = (board_answers.unpack_accepted full (length (taps_in full)) e).0.permitted.high in
    let read = (short_answers.returned short (length (taps_in full)) d r).0 in
    let taps = (short_answers.unpack_accepted short (length (taps_in full)) read).1 in
    omega (arith, most, taps, board_round.taps_length full, to_full_tests.above_most short h)

there_and_back : (file old new : List ℕ) → AllBytes file → to_short_test file (length old) ≡ Ok tt
    → length new ≡ length file
    → (to_full_test (to_short_leaves file old) (length new) ≡ Ok tt)
    × (to_full_leaves (to_short_leaves file old) new ≡ file)
there_and_back file old new bytes e l =
    let taps = taps_in file in
    let d = (claim_in file) in
    let answered = board_answers.unpack_returns file (length taps) (short_read file old e) in
    let r = to_short_reads file old e taps in
    let read = r.0 ∙ answered in
    let formed = has_form file (to_short_leaves file old) d (short_read file old e) read in
    let w = to_full_writes (to_short_leaves file old) new taps d read formed in
    let p = demand_2.packs file taps new d bytes answered l in (
      w.0 ∙ ap (λ t. pack_test t d (length new)) r.1 ∙ p.0,
      w.1 ∙ ap (λ t. pack_leaves t d new) r.1 ∙ p.1,
    )

back_and_there : (file old new : List ℕ) → AllBytes file → to_full_test file (length old) ≡ Ok tt
    → length new ≡ length file
    → (to_short_test (to_full_leaves file old) (length new) ≡ Ok tt)
    × (to_short_leaves (to_full_leaves file old) new ≡ file)
back_and_there file old new bytes e l =
    let taps = short_taps_in file in
    let d = (short_claim_in file) in
    let answered = short_answers.unpack_returns file (length taps) (full_read file old e) in
    let r = to_full_reads file old e taps in
    let w = to_short_writes (to_full_leaves file old) new taps d (r.0 ∙ answered) in
    let p = request_7.writes_back file taps new d bytes answered l in (
      w.0 ∙ ap (λ t. pack_short_test t d (length new)) r.1 ∙ p.0,
      w.1 ∙ ap (λ t. pack_short_leaves t d new) r.1 ∙ p.1,
    )

-- ---- the calls

call_to_short : (file taps taps' claim claim' old new new' : List ℕ) (code code' : ℕ)
    → UnpackCall file 0 taps taps' claim claim' → ToShortCall file old code new
    → PackShortCall taps' claim' old code' new' → (code ≡ code') × (new ≡ new')
call_to_short file taps taps' claim claim' old new new' code code' reads converts packs =
    let u = unpacked file taps taps' claim claim' reads in
    let w = to_short_writes file old taps u.0 u.1 in
    let test = w.0 ∙ sym (ap₂ (λ t c. pack_short_test t c (length old)) u.2 u.3) in
    let left = w.1 ∙ sym (ap₂ (λ t c. pack_short_leaves t c old) u.2 u.3) in
    (converts.coded ∙ ap answer_code test ∙ sym packs.coded, converts.short ∙ left ∙ sym packs.file)

call_to_full : (file taps taps' claim claim' old new new' : List ℕ) (code code' : ℕ)
    → UnpackShortCall file 0 taps taps' claim claim' → (NoFullForm file → ⊥)
    → ToFullCall file old code new → PackCall taps' claim' old code' new' → (code ≡ code') × (new ≡ new')
call_to_full file taps taps' claim claim' old new new' code code' reads formed converts packs =
    let a = reader_accepts file taps taps' claim claim' 0 reads refl in
    let d = (short_claim_in file) in
    let h = reader_hands file taps taps' claim claim' 0 reads d a.0 a.1 in
    let w = to_full_writes file old taps d a.1 formed in
    let test = w.0 ∙ sym (ap₂ (λ t c. pack_test t c (length old)) h.1 h.2) in
    let left = w.1 ∙ sym (ap₂ (λ t c. pack_leaves t c old) h.1 h.2) in
    (converts.coded ∙ ap answer_code test ∙ sym packs.coded, converts.file ∙ left ∙ sym packs.file)

-- a call's word is 0 exactly where the converter accepts
to_short_zero : (file old new : List ℕ) (code : ℕ) → ToShortCall file old code new → code ≡ 0
    → to_short_test file (length old) ≡ Ok tt
to_short_zero file old new code called zero =
    zero_accepts (to_short_test file (length old)) (bits.to_short_bits file (length old)) (sym called.coded ∙ zero)

to_full_zero : (file old new : List ℕ) (code : ℕ) → ToFullCall file old code new → code ≡ 0
    → to_full_test file (length old) ≡ Ok tt
to_full_zero file old new code called zero =
    zero_accepts (to_full_test file (length old)) (bits.to_full_bits file (length old)) (sym called.coded ∙ zero)

call_to_short_accepts : (file old new : List ℕ) (code : ℕ) → ToShortCall file old code new
    → (code ≡ 0)
    ↔ ((d : List ℕ) × (unpack_answer file (room file) ≡ Ok d) × FitsShort file (length old))
unfolding answer_code
call_to_short_accepts file old new code called =
    let a = (to_short_answers file (length old)).accepts in (
      λ zero. let h = a.0 (to_short_zero file old new code called zero) in (h.0, h.1, h.3),
      λ h. called.coded ∙ ap answer_code (a.1 (h.0, h.1, (λ f. f), h.2)),
    )

call_to_full_accepts : (file old new : List ℕ) (code : ℕ) → ToFullCall file old code new
    → (code ≡ 0)
    ↔ ((d : List ℕ) × (unpack_short_answer file (short_room file) ≡ Ok d)
    × (NoFullForm file → ⊥) × FitsFull file (length old))
unfolding answer_code
call_to_full_accepts file old new code called =
    let a = (to_full_answers file (length old)).accepts in
    (λ zero. a.0 (to_full_zero file old new code called zero), λ h. called.coded ∙ ap answer_code (a.1 h))

calls_there_and_back : (file old new back back' : List ℕ) (code : ℕ) → AllBytes file → ToShortCall file old 0 new
    → length back ≡ length file → ToFullCall new back code back' → (code ≡ 0) × (back' ≡ file)
unfolding answer_code
calls_there_and_back file old new back back' code bytes to l from =
    let e = to_short_zero file old new 0 to refl in
    let w = there_and_back file old back bytes e l in
    let s = to.short in (
      from.coded ∙ ap answer_code (ap (λ f. to_full_test f (length back)) s ∙ w.0),
      from.file ∙ ap (λ f. to_full_leaves f back) s ∙ w.1,
    )

calls_back_and_there : (file old new back back' : List ℕ) (code : ℕ) → AllBytes file → ToFullCall file old 0 new
    → length back ≡ length file → ToShortCall new back code back' → (code ≡ 0) × (back' ≡ file)
unfolding answer_code
calls_back_and_there file old new back back' code bytes to l from =
    let e = to_full_zero file old new 0 to refl in
    let w = back_and_there file old back bytes e l in
    let s = to.file in (
      from.coded ∙ ap answer_code (ap (λ f. to_short_test f (length back)) s ∙ w.0),
      from.short ∙ ap (λ f. to_short_leaves f back) s ∙ w.1,
    )

call_to_short_refuses : (file old new : List ℕ) (code : ℕ) (r : Refusal) → ToShortCall file old code new
    → ConverterFault file short_mark (unpack_answer file (room file)) ⊥ (FitsShort file (length old)) r
    → (code ≡ refusal_code r) × (new ≡ old)
unfolding answer_code to_short_leaves
call_to_short_refuses file old new code r called fault =
    let e = ((to_short_answers file (length old)).refuses r).1 fault in (
      called.coded ∙ ap answer_code e,
      called.short ∙ ap (λ a. leaves a (packed_short (taps_in file) (claim_in file)) old) e,
    )

call_to_full_refuses : (file old new : List ℕ) (code : ℕ) (r : Refusal) → ToFullCall file old code new
    → ConverterFault file full_mark (unpack_short_answer file (short_room file)) (NoFullForm file)
    (FitsFull file (length old)) r
    → (code ≡ refusal_code r) × (new ≡ old)
unfolding answer_code to_full_leaves
call_to_full_refuses file old new code r called fault =
    let e = ((to_full_answers file (length old)).refuses r).1 fault in (
      called.coded ∙ ap answer_code e,
      called.file ∙ ap (λ a. leaves a (packed (short_taps_in file) (short_claim_in file)) old) e,
    )

-- ---- the request
pub request_8 : Request8
request_8 = record {
  to_short_writes = to_short_writes;
  to_full_writes = to_full_writes;
  to_short_reads = λ file old taps e. to_short_reads file old e taps;
  to_full_reads = λ file old taps e. to_full_reads file old e taps;
  there_and_back = there_and_back;
  back_and_there = back_and_there;
  to_short_answers = to_short_answers;
  to_full_answers = to_full_answers;
  call_to_short = call_to_short;
  call_to_full = call_to_full;
  call_to_short_accepts = call_to_short_accepts;
  call_to_full_accepts = call_to_full_accepts;
  calls_there_and_back = calls_there_and_back;
  calls_back_and_there = calls_back_and_there;
  call_to_short_refuses = call_to_short_refuses;
  call_to_full_refuses = call_to_full_refuses;
}
