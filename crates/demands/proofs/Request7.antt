-- Request 7: the short edition there and back, one file for one meaning, the fault that each refusal names, the
-- lengths, and the same by the words and buffers of the calls. From the theorems of crate `board_short`.
-- Assumes nothing.
use mathlib.Core.Path.{◌≡◌, refl, sym, ap, ◌∙◌}
use mathlib.Core.List.{List}
use mathlib.Core.Logic.{◌↔◌, ◌⊎◌, inl, inr}
use Prim.Native.Nat.{ℕ}
use lib.ListN.{length}
use Rattle.std.specs.Prelude.{Ok, Err}
use Rattle.numbers.specs.Numbers.{tap_word_batches}
use Rattle.refusals.specs.Answers.{Answer, with_value, leaves}
use Rattle.refusals.specs.declared.Refusal.{Refusal}
use Rattle.refusals.specs.declared.Refusal.TheVariants.{LongElement}
use Rattle.refusals.proofs.Laws.{refused_same, value_accepted, value_refused}
use Rattle.board_words.specs.Words.{AllBytes}
use Rattle.board_short.specs.ShortBoard.{short_file_size, pack_short_test, packed_short, pack_short_leaves}
use Rattle.board_short.specs.ShortBoard.{short_claim_in}
use Rattle.board_short.specs.ShortBoard.{short_taps_in, unpack_short_test, unpack_short_answer, unpack_short_leaves}
use Rattle.board_short.specs.ShortBoard.{ThreeForOne, FirstFault}
use Rattle.board_short.proofs.Answers.{pack_accepted, pack_complete, unpack_returns, unpack_refuses}
use Rattle.board_short.proofs.Theorems as short
use Rattle.call_results.specs.Code.{refusal_code, answer_code, words_code}
use Rattle.call_results.specs.HandsOver.{written}
use Rattle.call_results.proofs.Bits.{zero_accepts, zero_returns}
use Rattle.call_answers.specs.Calls.{PackShortCall, unpack_short_call_test, unpack_short_call, UnpackShortCall}
use Rattle.call_answers.proofs.Answers.{unpack_short_room, unpack_short_without, no_short_list_refuses}
use Rattle.call_answers.proofs.Answers.{unpack_short_answer_lem, unpack_short_left}
use Rattle.call_answers.proofs.Theorems as bits
use Rattle.demands.specs.Request7.{IsShortDay, Request7}
use Rattle.demands.proofs.Called.{had_room}
use Rattle.demands.proofs.Demand1.UnpackShort.{unpack_short_words}

-- ---- there and back
writes_exactly : (taps claim : List ℕ) (size : ℕ) → length claim ≡ 4
    → (pack_short_test taps claim size ≡ Ok tt)
    ↔ (((k : ℕ) × IsShortDay taps claim k) × (size ≡ short_file_size taps claim))
writes_exactly taps claim size four = (
  λ e.
      let h = pack_accepted taps claim size e in
      let day : IsShortDay taps claim (tap_word_batches (length taps)) = record {
        permitted = h.permitted;
        taps_size = h.taps_size;
        claim_size = four;
        taps_canonical = h.taps_canonical;
        claim_canonical = h.claim_canonical;
      } in
      ((tap_word_batches (length taps), day), h.size_is),
  λ h.
      let day = h.0.1 in
      pack_complete taps claim size h.0.0 (record {
        permitted = day.permitted;
        taps_size = day.taps_size;
        size_is = h.1;
        claim_canonical = day.claim_canonical;
        taps_canonical = day.taps_canonical;
      }),
)

-- what the writer and the reader leave where they accept
packed_left : (taps claim old : List ℕ) → pack_short_test taps claim (length old) ≡ Ok tt
    → pack_short_leaves taps claim old ≡ packed_short taps claim
unfolding pack_short_leaves
packed_left taps claim old e = ap (λ a. leaves a (packed_short taps claim) old) e

pub taps_left : (file old d : List ℕ) → unpack_short_answer file (length old) ≡ Ok d
    → unpack_short_leaves file old ≡ short_taps_in file
unfolding unpack_short_answer unpack_short_leaves
taps_left file old d e =
    ap (λ a. leaves a (short_taps_in file) old) (value_accepted (unpack_short_test file (length old)) _ d e).0

reads : (taps claim old room : List ℕ) → length claim ≡ 4
    → pack_short_test taps claim (length old) ≡ Ok tt → length room ≡ length taps
    → (unpack_short_answer (pack_short_leaves taps claim old) (length room) ≡ Ok claim)
    × (unpack_short_leaves (pack_short_leaves taps claim old) room ≡ taps)
reads taps claim old room four e l =
    let u = short.unpack_packed taps claim (length old) four e in
    let file = packed_short taps claim in
    let answered : unpack_short_answer file (length room) ≡ Ok claim =
    ap (unpack_short_answer file) l ∙ u.0 in
    rw (packed_left taps claim old e) (answered, taps_left file room claim answered ∙ u.1)

writes_back : (file old room d : List ℕ) → AllBytes file
    → unpack_short_answer file (length old) ≡ Ok d → length room ≡ length file
    → (pack_short_test (unpack_short_leaves file old) d (length room) ≡ Ok tt)
    × (pack_short_leaves (unpack_short_leaves file old) d room ≡ file)
writes_back file old room d bytes e l =
    let p = short.pack_unpack file (length old) d bytes e in
    let taps = short_taps_in file in
    let again : pack_short_test taps d (length room) ≡ Ok tt =
    ap (pack_short_test taps d) l ∙ p.0 in
    rw (taps_left file old d e) (again, packed_left taps d room again ∙ p.1)

-- ---- one file, one meaning
one_file : (f g s t d : List ℕ) → AllBytes f → AllBytes g
    → unpack_short_answer f (length s) ≡ Ok d → unpack_short_answer g (length t) ≡ Ok d
    → unpack_short_leaves f s ≡ unpack_short_leaves g t → f ≡ g
one_file f g s t d bf bg ef eg same =
    short.one_file f g (length s) (length t) d bf bg ef eg (sym (taps_left f s d ef) ∙ same ∙ taps_left g t d eg)

one_meaning : (taps claim others other : List ℕ) (m n : ℕ) → length claim ≡ 4 → length other ≡ 4
    → pack_short_test taps claim m ≡ Ok tt → pack_short_test others other n ≡ Ok tt
    → packed_short taps claim ≡ packed_short others other → (taps ≡ others) × (claim ≡ other)
one_meaning taps claim others other m n c o e f same =
    let u = short.unpack_packed taps claim m c e in
    let v = short.unpack_packed others other n o f in
    let lists = sym u.1 ∙ ap short_taps_in same ∙ v.1 in
    let answers = sym u.0
    ∙ ap (λ file. unpack_short_answer file (length taps)) same
    ∙ ap (λ s. unpack_short_answer (packed_short others other) (length s)) lists
    ∙ v.0 in
    let claims = (value_accepted (Ok tt) claim other answers).1 in
    (lists, claims)

-- ---- every file
accepts_exactly : (file : List ℕ) (size : ℕ) (d : List ℕ) → AllBytes file
    → (unpack_short_answer file size ≡ Ok d)
    ↔ ((length d ≡ 4) × ((taps : List ℕ) × (pack_short_test taps d (length file) ≡ Ok tt)
    × (file ≡ packed_short taps d) × (size ≡ length taps)))
accepts_exactly file size d bytes = (
  λ e.
      let p = short.pack_unpack file size d bytes e in
      (unpack_short_words file size d e, (short_taps_in file, p.0, sym p.1, short.accepted_room file size d e)),
  λ h.
      let taps = h.1.0 in
      ap (λ f. unpack_short_answer f size) h.1.2
      ∙ ap (unpack_short_answer (packed_short taps d)) h.1.3
      ∙ (short.unpack_packed taps d (length file) h.0 h.1.1).0,
)

refuses_exactly : (file : List ℕ) (size : ℕ) (r : Refusal)
    → (unpack_short_answer file size ≡ Err r) ↔ FirstFault file size r
unfolding unpack_short_answer
refuses_exactly file size r = (
  λ e. short.first_fault file size r (value_refused (unpack_short_test file size) _ r e),
  λ f. unpack_refuses file size r (short.fault_first file size r f),
)

answers : (file : List ℕ) (size : ℕ)
    → ((d : List ℕ) × (unpack_short_answer file size ≡ Ok d)) ⊎ ((r : Refusal) × FirstFault file size r)
answers file size = go (unpack_short_test file size) refl
  where
    go : (t : Answer) → unpack_short_test file size ≡ t
        → ((d : List ℕ) × (unpack_short_answer file size ≡ Ok d)) ⊎ ((r : Refusal) × FirstFault file size r)
    go (Ok _) e = inl ((short_claim_in file), unpack_returns file size e)
    go (Err r) e = inr (r, short.first_fault file size r e)

one_fault : (file : List ℕ) (size : ℕ) (r s : Refusal) → FirstFault file size r → FirstFault file size s → r ≡ s
one_fault file size r s f g = refused_same (sym (short.fault_first file size r f) ∙ short.fault_first file size s g)

eighteen_exactly : (file : List ℕ) (size j : ℕ)
    → (unpack_short_answer file size ≡ Err (LongElement j)) ↔ ThreeForOne file size j
unfolding unpack_short_answer
eighteen_exactly file size j =
    let e = short.eighteen file size j in (
      λ a. e.0 (value_refused (unpack_short_test file size) _ (LongElement j) a),
      λ t. unpack_refuses file size (LongElement j) (e.1 t),
    )

-- ---- the calls

-- the writer's, where its word is 0
writer_accepts : (taps claim file file' : List ℕ) → length claim ≡ 4 → PackShortCall taps claim file 0 file'
    → pack_short_test taps claim (length file) ≡ Ok tt
writer_accepts taps claim file file' four called =
    zero_accepts (pack_short_test taps claim (length file)) (bits.pack_short_bits taps claim (length file) four)
    (sym called.coded)

-- the reader's
module _ (file taps taps' claim claim' : List ℕ) (code : ℕ) (called : UnpackShortCall file code taps taps' claim claim')
  where
    abbrev asked : Answer
    asked = unpack_short_call_test file (length taps) (length claim)

    -- what it hands over where it has room for the claim and accepts with d
    pub reader_hands : (d : List ℕ) → length claim ≡ 4 → unpack_short_answer file (length taps) ≡ Ok d
        → (code ≡ 0) × (taps' ≡ unpack_short_leaves file taps) × (claim' ≡ d)
    unfolding words_code
    reader_hands d four e =
        let a = sym (unpack_short_answer_lem (length claim) four file (length taps)) ∙ e in (
          called.four.coded ∙ ap words_code a,
          called.list ∙ sym (unpack_short_left (length claim) four file taps),
          called.four.output ∙ ap (λ x. written x claim) a,
        )

    -- and where it does not
    reader_keeps : (r : Refusal) → asked ≡ Err r → (taps' ≡ taps) × (claim' ≡ claim)
    unfolding unpack_short_call
    reader_keeps r e = (
      called.list ∙ ap (λ a. leaves a (short_taps_in file) taps) e,
      called.four.output ∙ ap (λ a. written (with_value a (short_claim_in file)) claim) e,
    )

    -- where its word is 0, both had room
    pub reader_accepts : code ≡ 0
        → (length claim ≡ 4) × (unpack_short_answer file (length taps) ≡ Ok (short_claim_in file))
    unfolding unpack_short_call
    reader_accepts zero =
        let size = length claim in
        let passes = zero_returns asked (short_claim_in file) (bits.unpack_short_bits file (length taps) size)
        (sym called.four.coded ∙ zero) in
        let four = had_room size asked (unpack_short_test file 0) (unpack_short_without file (length taps) size)
        (no_short_list_refuses file) passes in
        (four, unpack_returns file (length taps) (unpack_short_room file (length taps) size four ∙ passes))

    call_refuses : (r : Refusal) → length claim ≡ 4 → FirstFault file (length taps) r
        → (code ≡ refusal_code r) × (taps' ≡ taps) × (claim' ≡ claim)
    unfolding unpack_short_call words_code
    call_refuses r four fault =
        let t = short.fault_first file (length taps) r fault in
        let a = sym (unpack_short_room file (length taps) (length claim) four) ∙ t in
        let kept = reader_keeps r a in
        (called.four.coded ∙ ap (λ x. words_code (with_value x (short_claim_in file))) a, kept.0, kept.1)

    call_without : (length claim ≡ 4 → ⊥)
        → (code ≡ words_code (unpack_short_answer file 0)) × (taps' ≡ taps) × (claim' ≡ claim)
    unfolding unpack_short_answer unpack_short_call
    call_without without =
        let same = unpack_short_without file (length taps) (length claim) without in
        let r = no_short_list_refuses file in
        let kept = reader_keeps r.0 (same ∙ r.1) in
        (called.four.coded ∙ ap (λ x. words_code (with_value x (short_claim_in file))) same, kept.0, kept.1)

call_reads : (taps claim file file' room room' four four' : List ℕ) (code : ℕ) → length claim ≡ 4
    → PackShortCall taps claim file 0 file' → length room ≡ length taps → length four ≡ 4
    → UnpackShortCall file' code room room' four four'
    → (code ≡ 0) × (room' ≡ taps) × (four' ≡ claim)
call_reads taps claim file file' room room' four four' code c packs l f called =
    let e = writer_accepts taps claim file file' c packs in
    let r = reads taps claim file room c e l in
    let answered = ap (λ s. unpack_short_answer s (length room)) packs.file ∙ r.0 in
    let h = reader_hands file' room room' four four' code called claim f answered in (
      h.0,
      h.1 ∙ ap (λ s. unpack_short_leaves s room) packs.file ∙ r.1,
      h.2,
    )

call_writes_back : (file taps taps' claim claim' room room' : List ℕ) (code : ℕ) → AllBytes file
    → UnpackShortCall file 0 taps taps' claim claim' → length room ≡ length file
    → PackShortCall taps' claim' room code room'
    → (code ≡ 0) × (room' ≡ file)
unfolding answer_code
call_writes_back file taps taps' claim claim' room room' code bytes called l packs =
    let a = reader_accepts file taps taps' claim claim' 0 called refl in
    let d = (short_claim_in file) in
    let h = reader_hands file taps taps' claim claim' 0 called d a.0 a.1 in
    let w = writes_back file taps room d bytes a.1 l in
    let test : pack_short_test taps' claim' (length room) ≡ Ok tt = rw (h.1, h.2) w.0 in
    let left : pack_short_leaves taps' claim' room ≡ file = rw (h.1, h.2) w.1 in
    (packs.coded ∙ ap answer_code test, packs.file ∙ left)

-- ---- the request
pub request_7 : Request7
request_7 = record {
  writes_exactly = writes_exactly;
  reads = reads;
  writes_back = writes_back;
  one_file = one_file;
  one_meaning = one_meaning;
  no_bit_lost = short.no_bit_lost;
  accepts_exactly = accepts_exactly;
  refuses_exactly = refuses_exactly;
  answers = answers;
  one_fault = one_fault;
  eighteen_exactly = eighteen_exactly;
  full_refuses = short.full_refuses;
  short_refuses = short.short_refuses;
  spare_refused = short.spare_refused;
  length_is = short.packed_length;
  never_longer = short.never_longer;
  all_small = short.all_small;
  none_small = short.none_small;
  call_reads = call_reads;
  call_writes_back = call_writes_back;
  call_refuses = λ file taps taps' claim claim' code r called. call_refuses file taps taps' claim claim' code called r;
  call_without = call_without;
}
