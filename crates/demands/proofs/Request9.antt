-- Request 9: which k are permitted; where 5, 7 and 14 come, from what is known where an order of tests ends with them
-- (crate `call_answers`, proofs/Endings); a list of 24580 words; what has no full form; the short files already stored
-- (Stored.antt); and room in the returned word.
-- Assumes nothing.
use mathlib.Core.Path.{◌≡◌, refl, sym, ap, subst, ◌∙◌}
use mathlib.Core.Bool.{Bool, true, false, true≢false}
use mathlib.Core.List.{List}
use mathlib.Core.Logic.{◌↔◌}
use Prim.Native.Nat.{ℕ, zero, suc, ◌+◌, ◌^◌, ◌≤◌, ◌<◌}
use native.Mathlib.Decide.{ℕ_discrete, dec_lt}
use native.Mathlib.Omega.{arith}
use borrow.Author.Tests.{le-leb, leb-true}
use lib.Dec.{eqb, leb, ltb}
use lib.ListN.{length}
use Rattle.std.specs.Prelude.{Ok, Err}
use Rattle.field.specs.Field.{P}
use Rattle.field_words.specs.Words.{AllCanonical}
use Rattle.numbers.specs.Numbers.{tap_words, IsPermittedTo, IsPermitted, most_batches, is_tap_length}
use Rattle.numbers.specs.Numbers.{tap_word_batches, is_trace_length, trace_word_batches}
use Rattle.numbers.proofs.Laws.{permitted_power, power_permitted, permitted_to, tap_length_sound, tap_length_complete}
use Rattle.numbers.proofs.Laws.{trace_length_sound, trace_length_complete}
use Rattle.refusals.specs.Refusals.{told, value_of}
use Rattle.refusals.specs.Answers.{leaves}
use Rattle.refusals.specs.declared.Refusal.{Refusal}
use Rattle.refusals.specs.declared.Refusal.TheVariants.{TapLength, TapWord, TraceLength, TraceWord, DestinationLength}
use Rattle.refusals.specs.declared.Refusal.TheVariants.{ClaimWord, ClaimBatches, Constraint, NoSuchTap, FileLength}
use Rattle.refusals.specs.declared.Refusal.TheVariants.{WrongKind, WrongValue, LongElement, SameEdition}
use Rattle.refusals.proofs.Laws.{not_accepted, refused_same, value_refused, AnswerEnds, unless_ends}
use Rattle.refusals.proofs.Laws.{after_ends, refusal_ends}
use Rattle.table.specs.Table.{table_test}
use Rattle.hash_chain.specs.Answers.{chain_test, chain_answer}
use Rattle.trace.specs.Answers.{build_test, build_answer}
use Rattle.check_trace.specs.Answers.{opening_test, check_test, check_answer}
use Rattle.trace_read_off.specs.Answers.{read_off_test, read_off_answer}
use Rattle.trace_edit.specs.Answers.{edit_test, edit_answer}
use Rattle.board_words.specs.Words.{kind_of, word_at}
use Rattle.board_words.specs.Elements.{element_at, element_test, elements_test}
use Rattle.board.specs.Board.{most_file_batches, count_word, element_count, file_size, pack_test, packed, pack_leaves}
use Rattle.board.specs.Board.{batches_in, count_test, unpack_test, unpack_answer, unpack_leaves}
use Rattle.board.proofs.Answers as board
use Rattle.board_short_read.specs.Reading.{first_word, ElementFault, no_first, first_kind, no_second, second_kind}
use Rattle.board_short_read.specs.Reading.{no_third, third_kind, too_large, needless}
use Rattle.board_short_read.proofs.Tests.{first_least}
use Rattle.board_short.specs.ShortBoard.{short_count_word, short_file_size, pack_short_test, short_batches_in}
use Rattle.board_short.specs.ShortBoard.{short_claim_in}
use Rattle.board_short.specs.ShortBoard.{short_taps_in, unpack_short_test, unpack_short_answer, unpack_short_leaves}
use Rattle.board_short.specs.ShortBoard.{FirstFault}
use Rattle.board_short.specs.ShortBoard.{no_count, count_kind, count_value, no_room}
use Rattle.board_short.specs.ShortBoard as faults
use Rattle.board_short.proofs.Answers as short
use Rattle.board_short.proofs.Theorems.{first_fault, fault_first}
use Rattle.board_edition.specs.Edition.{full_mark, short_mark, HasMark, ConverterFault, already, no_form, malformed}
use Rattle.board_edition.specs.Edition as converter
use Rattle.board_edition.proofs.Answers.{not_full}
use Rattle.board_to_full.specs.ToFull.{to_full_test, to_full_leaves, NoFullForm}
use Rattle.board_to_full.proofs.Answers as to_full
use Rattle.call_results.specs.Code.{refusal_code, answer_code}
use Rattle.call_answers.specs.Calls.{PackCall, UnpackShortCall, ToFullCall}
use Rattle.call_answers.proofs.Endings.Taps.{TapsCauses}
use Rattle.call_answers.proofs.Endings.Trace.{TraceCauses}
use Rattle.call_answers.proofs.Endings.Chain.{chain_ends}
use Rattle.call_answers.proofs.Endings.Build.{build_ends}
use Rattle.call_answers.proofs.Endings.Pack.{pack_ends, pack_short_ends}
use Rattle.call_answers.proofs.Endings.Check.{check_ends}
use Rattle.call_answers.proofs.Endings.ReadOff.{read_off_ends}
use Rattle.call_answers.proofs.Endings.Edit.{edit_ends}
use Rattle.demands.specs.Stored.{stored_unpack_answer, stored_unpack_leaves}
use Rattle.demands.specs.Request9.{TapsFit, RowsFit, WrongCount, Request9}
use Rattle.demands.proofs.Demand2.{demand_2}
use Rattle.demands.proofs.OneNumber.{Of, other, table_causes_lem, in_answer}
use Rattle.demands.proofs.Request7.{reader_hands}
use Rattle.demands.proofs.Request8.{request_8}
use Rattle.demands.proofs.Stored as stored

-- ---- the permitted k
powers : (n k : ℕ) → IsPermittedTo (2 ^ n) k ↔ ((j : ℕ) × (j ≤ n) × (k ≡ 2 ^ j))
powers n k = (
  permitted_power n k,
  λ h. subst (IsPermittedTo (2 ^ n)) (sym h.2) (power_permitted n h.0 h.1),
)

-- ---- the lengths of a list and of a trace, as the tests have them
module _ (most : ℕ) (w : List ℕ) where
  not_taps : is_tap_length most (length w) ≡ false → TapsFit most w → ⊥
  not_taps e a = true≢false (sym (tap_length_complete most (length w) a.0 a.2 a.1).0 ∙ e)

  no_length : (TapsFit most w → ⊥) → is_tap_length most (length w) ≡ false
  no_length n = go (is_tap_length most (length w)) refl
    where
      go : (b : Bool) → is_tap_length most (length w) ≡ b → is_tap_length most (length w) ≡ false
      go false e = e
      go true e = let s = tap_length_sound most (length w) e in absurd (n (tap_word_batches (length w), s.1, s.0))

module _ (t : List ℕ) where
  not_rows : is_trace_length most_batches (length t) ≡ false → RowsFit t → ⊥
  not_rows e a = true≢false (sym (trace_length_complete most_batches (length t) a.0 a.2 a.1).0 ∙ e)

  no_rows : (RowsFit t → ⊥) → is_trace_length most_batches (length t) ≡ false
  no_rows n = go (is_trace_length most_batches (length t)) refl
    where
      go : (b : Bool) → is_trace_length most_batches (length t) ≡ b → is_trace_length most_batches (length t) ≡ false
      go false e = e
      go true e =
          let s = trace_length_sound most_batches (length t) e in
          absurd (n (trace_word_batches (length t), s.1, s.0))

-- ---- 5
causes_5 : (most : ℕ) (w : List ℕ)
    → let F = TapsFit most w → ⊥ in TapsCauses (Of 5 F) most w
causes_5 most w =
    let F = TapsFit most w → ⊥ in
    record { by_length = λ z q. not_taps most w z; by_word = λ k s p i h. other 5 F (TapWord i) refl }

module _ (T w : List ℕ) (accepted : table_test T ≡ Ok tt) where
  abbrev NotTaps : Type 0
  NotTaps = TapsFit most_batches w → ⊥

  chain_5 : (chain_answer T w ≡ Err TapLength) ↔ NotTaps
  unfolding chain_answer chain_test
  chain_5 = (
    λ e.
        in_answer 5 NotTaps (chain_test T w) TapLength refl
        (chain_ends (Of 5 NotTaps) (table_causes_lem 5 NotTaps refl refl refl) T w (causes_5 most_batches w))
        (value_refused (chain_test T w) _ TapLength e),
    λ n. rw (accepted, no_length most_batches w n),
  )

  build_5 : (size : ℕ) → (build_answer T w size ≡ Err TapLength) ↔ NotTaps
  unfolding build_answer build_test
  build_5 size = (
    λ e.
        in_answer 5 NotTaps (build_test T w size) TapLength refl
        (build_ends (Of 5 NotTaps) (table_causes_lem 5 NotTaps refl refl refl) T w (causes_5 most_batches w) size
        (other 5 NotTaps DestinationLength refl))
        (value_refused (build_test T w size) _ TapLength e),
    λ n. rw (accepted, no_length most_batches w n),
  )

module _ (w claim : List ℕ) (size : ℕ) where
  pack_5 : (pack_test w claim size ≡ Err TapLength) ↔ (TapsFit most_file_batches w → ⊥)
  unfolding pack_test
  pack_5 =
      let F = TapsFit most_file_batches w → ⊥ in (
        λ e.
            in_answer 5 F (pack_test w claim size) TapLength refl
            (pack_ends (Of 5 F) w claim size (other 5 F DestinationLength refl)
            (λ i h. other 5 F (ClaimWord i) refl) (causes_5 most_file_batches w))
            e,
        λ n. rw (no_length most_file_batches w n),
      )

  pack_short_5 : (pack_short_test w claim size ≡ Err TapLength) ↔ (TapsFit most_batches w → ⊥)
  unfolding pack_short_test
  pack_short_5 =
      let F = TapsFit most_batches w → ⊥ in (
        λ e.
            in_answer 5 F (pack_short_test w claim size) TapLength refl
            (pack_short_ends (Of 5 F) w claim size (other 5 F DestinationLength refl)
            (λ i h. other 5 F (ClaimWord i) refl) (causes_5 most_batches w))
            e,
        λ n. rw (no_length most_batches w n),
      )

-- ---- 7
module _ (T t claim : List ℕ) (c : ℕ) where
  abbrev NotRows : Type 0
  NotRows = RowsFit t → ⊥

  not_7 : (r : Refusal) → eqb (told r).number 7 ≡ false → Of 7 NotRows r
  not_7 = other 7 NotRows

  causes : TraceCauses (Of 7 NotRows) T t claim c
  causes = record {
    of_table = table_causes_lem 7 NotRows refl refl refl;
    by_length = λ z q. not_rows t z;
    by_batches = λ k d p s o. not_7 ClaimBatches refl;
    by_claim = λ i h. not_7 (ClaimWord i) refl;
    by_word = λ k s p i h. not_7 (TraceWord i) refl;
  }

  opening : table_test T ≡ Ok tt → NotRows → opening_test T t c ≡ Err TraceLength
  unfolding opening_test
  opening e n = rw (e, no_rows t n)

  check_7 : table_test T ≡ Ok tt → (check_answer T t claim c ≡ Err TraceLength) ↔ NotRows
  unfolding check_answer check_test
  check_7 table = (
    λ e.
        in_answer 7 NotRows (check_test T t claim c) TraceLength refl
        (check_ends (Of 7 NotRows) T t claim c causes
        (λ h i q n f. not_7 (Constraint (record { 0 = i }) q n) refl))
        (value_refused (check_test T t claim c) _ TraceLength e),
    λ n. rw (opening table n),
  )

  read_off_7 : (size : ℕ) → table_test T ≡ Ok tt
      → (read_off_answer T t claim c size ≡ Err TraceLength) ↔ NotRows
  unfolding read_off_answer read_off_test
  read_off_7 size table = (
    λ e.
        in_answer 7 NotRows (read_off_test T t claim c size) TraceLength refl
        (read_off_ends (Of 7 NotRows) T t claim c causes size (not_7 DestinationLength refl)
        (λ r h i q n f. not_7 (Constraint (record { 0 = i }) q n) refl))
        (value_refused (read_off_test T t claim c size) _ TraceLength e),
    λ n. rw (opening table n),
  )

  edit_7 : (n : ℕ) (new : List ℕ) → table_test T ≡ Ok tt
      → (edit_answer T t claim c n new ≡ Err TraceLength) ↔ NotRows
  unfolding edit_answer edit_test
  edit_7 n new table = (
    λ e.
        in_answer 7 NotRows (edit_test T t claim c n new) TraceLength refl
        (edit_ends (Of 7 NotRows) T t claim c causes n new (not_7 NoSuchTap refl)
        (λ i h. not_7 (TapWord i) refl) (λ l a h i q m f. not_7 (Constraint (record { 0 = i }) q m) refl))
        (value_refused (edit_test T t claim c n new) _ TraceLength e),
    λ m. rw (opening table m),
  )

-- ---- 14 with word 0

-- of a refusal only this one matters, which shows F
module _ (F : Type 0) where
  abbrev Of14 : Refusal → Type 0
  Of14 r = r ≡ WrongValue 0 → F

  not_14 : (r : Refusal) → eqb (told r).number 14 ≡ false → Of14 r
  not_14 r h e = absurd (true≢false (sym (ap (λ x. eqb (told x).number 14) e) ∙ h))

  -- elements stand after word 0
  later : (j : ℕ) → 1 ≤ j → Of14 (WrongValue j)
  later j h e = absurd (omega (arith, ap (λ x. value_of (told x).place) e))

  elements_14 : (file : List ℕ) (j n : ℕ) → 1 ≤ j → AnswerEnds Of14 (elements_test file j n)
  unfolding elements_test element_test
  elements_14 file j zero h = tt
  elements_14 file j (suc n) h =
      after_ends Of14 (element_test file j) _
      (unless_ends Of14 (eqb (kind_of (word_at file j)) 1) (WrongKind j) _ (λ e. not_14 (WrongKind j) refl) λ e.
      unless_ends Of14 (eqb (kind_of (word_at file (j + 1))) 2) (WrongKind (j + 1)) _
      (λ f. not_14 (WrongKind (j + 1)) refl) λ f.
      unless_ends Of14 (eqb (kind_of (word_at file (j + 2))) 3) (WrongKind (j + 2)) _
      (λ g. not_14 (WrongKind (j + 2)) refl) λ g.
      unless_ends Of14 (ltb (element_at file j) P) (WrongValue j) _ (λ k. later j h) λ k. tt)
      (λ e. elements_14 file (j + 3) n (omega (arith, h)))

-- by Unpack
module _ (file : List ℕ) where
  abbrev w : ℕ
  w = word_at file 0

  abbrev NoFullCount : Type 0
  NoFullCount = WrongCount file most_file_batches count_word

  refused_count : 4 ≤ length file → (r : Refusal) → count_test w ≡ Err r → Of14 NoFullCount r
  refused_count four r e q = go (ℕ_discrete (kind_of w) 0)
    where
      go : Dec (kind_of w ≡ 0) → NoFullCount
      go (yes z) = record {
        four = four;
        kind = z;
        no_count = λ k p f. not_accepted r (sym e ∙ ap count_test f ∙ (board.count_complete k p).1);
      }
      go (no n) = not_14 NoFullCount (WrongKind 0) refl (sym (refused_same (sym e ∙ board.count_kind w n)) ∙ q)

  unpack_ends : (size : ℕ) → AnswerEnds (Of14 NoFullCount) (unpack_test file size)
  unfolding unpack_test
  unpack_ends size =
      let Q = Of14 NoFullCount in
      unless_ends Q (leb 4 (length file)) FileLength _ (λ e. not_14 NoFullCount FileLength refl) λ four.
      after_ends Q (count_test w) _ (refusal_ends Q (count_test w) (refused_count (leb-true _ _ four))) λ f.
      unless_ends Q (eqb (length file) (file_size (batches_in file))) FileLength _
      (λ g. not_14 NoFullCount FileLength refl) λ g.
      unless_ends Q (eqb size (tap_words (batches_in file))) DestinationLength _
      (λ h. not_14 NoFullCount DestinationLength refl) λ h.
      elements_14 NoFullCount file 1 (element_count (batches_in file)) (omega arith)

  unpack_14 : (size : ℕ) → (unpack_answer file size ≡ Err (WrongValue 0)) ↔ NoFullCount
  unfolding unpack_answer unpack_test
  unpack_14 size = (
    λ e.
        subst (AnswerEnds (Of14 NoFullCount)) (value_refused (unpack_test file size) _ (WrongValue 0) e)
        (unpack_ends size) refl,
    λ h. rw (le-leb 4 (length file) h.four, board.count_value w h.kind h.no_count),
  )

  -- by the short edition's reader
  abbrev NoShortCount : Type 0
  NoShortCount = WrongCount file most_batches short_count_word

  in_element : (j : ℕ) → 1 ≤ j → (r : Refusal) → ElementFault file j r → Of14 NoShortCount r
  in_element j h r (no_first l e) q = not_14 NoShortCount FileLength refl (sym e ∙ q)
  in_element j h r (first_kind l n m e) q = not_14 NoShortCount (WrongKind j) refl (sym e ∙ q)
  in_element j h r (no_second l a m e) q = not_14 NoShortCount FileLength refl (sym e ∙ q)
  in_element j h r (second_kind l a n e) q = not_14 NoShortCount (WrongKind (j + 1)) refl (sym e ∙ q)
  in_element j h r (no_third l a b m e) q = not_14 NoShortCount FileLength refl (sym e ∙ q)
  in_element j h r (third_kind l a b n e) q = not_14 NoShortCount (WrongKind (j + 2)) refl (sym e ∙ q)
  in_element j h r (too_large l a b c m e) q = later NoShortCount j h (sym e ∙ q)
  in_element j h r (needless l is m e) q = not_14 NoShortCount (LongElement j) refl (sym e ∙ q)

  in_file : (size : ℕ) (r : Refusal) → FirstFault file size r → Of14 NoShortCount r
  in_file size r (no_count h e) q = not_14 NoShortCount FileLength refl (sym e ∙ q)
  in_file size r (count_kind h n e) q = not_14 NoShortCount (WrongKind 0) refl (sym e ∙ q)
  in_file size r (count_value h z n e) q = record { four = h; kind = z; no_count = n }
  in_file size r (no_room h k p v n e) q = not_14 NoShortCount DestinationLength refl (sym e ∙ q)
  in_file size r (faults.element k i on l b f) q = in_element (first_word file 1 i) (first_least file 1 i) r f q
  in_file size r (faults.tail k on b n e) q = not_14 NoShortCount FileLength refl (sym e ∙ q)

  unpack_short_14 : (size : ℕ) → (unpack_short_answer file size ≡ Err (WrongValue 0)) ↔ NoShortCount
  unfolding unpack_short_answer
  unpack_short_14 size = (
    λ e.
        let f = value_refused (unpack_short_test file size) _ (WrongValue 0) e in
        in_file size (WrongValue 0) (first_fault file size (WrongValue 0) f) refl,
    λ h.
        short.unpack_refuses file size (WrongValue 0)
        (fault_first file size (WrongValue 0) (count_value h.four h.kind h.no_count refl)),
  )

  -- by the converter to the full edition
  abbrev NoCountThere : Type 0
  NoCountThere = HasMark file short_mark × WrongCount file most_file_batches short_count_word

  -- a word 0 that counts more is no count of fewer
  larger : NoFullForm file → NoCountThere
  larger h =
      let m = to_full.its_mark file h in (
        m,
        record {
          four = m.four;
          kind = m.kind;
          no_count = λ k p e. omega (arith, h.word, e, h.above, p.high, h.permitted.high);
        },
      )

  abbrev Fault : ℕ → Refusal → Type 0
  Fault size r =
      ConverterFault file full_mark (unpack_short_answer file (tap_words (short_batches_in file))) (NoFullForm file)
      (size ≡ length (packed (short_taps_in file) (short_claim_in file))) r

  to_full_14 : (size : ℕ) → (to_full_test file size ≡ Err (WrongValue 0)) ↔ NoCountThere
  to_full_14 size = (λ e. there (exactly.0 e), λ h. exactly.1 (back h (to_full.form file)))
    where
      exactly : (to_full_test file size ≡ Err (WrongValue 0)) ↔ Fault size (WrongValue 0)
      exactly = (request_8.to_full_answers file size).refuses (WrongValue 0)

      there : Fault size (WrongValue 0) → NoCountThere
      there (already m e) = absurd (not_14 ⊥ SameEdition refl (sym e))
      there (no_form h e) = larger h
      there (malformed n m e) =
          let c = (unpack_short_14 (tap_words (short_batches_in file))).0 e in
          let mark = not_full w (λ z. n (record { four = c.four; kind = c.kind; mark_is = z })) in (
            record { four = c.four; kind = c.kind; mark_is = mark },
            record {
              four = c.four;
              kind = c.kind;
              no_count = λ k p f. c.no_count k (permitted_to most_batches k p (omega (arith, p.high))) f;
            },
          )
      there (converter.no_room d e m n f) = absurd (not_14 ⊥ DestinationLength refl (sym f))

      back : NoCountThere → Dec (NoFullForm file) → Fault size (WrongValue 0)
      back h (yes f) = no_form f refl
      back h (no n) =
          let c = h.1 in
          malformed (λ m. omega (arith, m.mark_is, h.0.mark_is)) n
          ((unpack_short_14 (tap_words (short_batches_in file))).1 (record {
            four = c.four;
            kind = c.kind;
            no_count = λ k p e. go k p e (dec_lt most_file_batches k);
          }))
        where
          go : (k : ℕ) → IsPermitted k → w ≡ short_count_word k → Dec (most_file_batches < k) → ⊥
          go k p e (yes above) =
              n (record { k = k; four = h.0.four; word = e; permitted = p; above = above })
          go k p e (no few) = h.1.no_count k (permitted_to most_file_batches k p (omega (arith, few))) e

-- ---- 24580 words
two_thousand : IsPermitted 2048
two_thousand = power_permitted 18 11 (omega arith)

packs_24580 : (w claim : List ℕ) (size : ℕ) → length w ≡ 24580 → AllCanonical w → length claim ≡ 4
    → AllCanonical claim
    → (pack_short_test w claim (short_file_size w claim) ≡ Ok tt)
    × (pack_test w claim size ≡ Err TapLength)
packs_24580 w claim size l a four b = (
  short.pack_complete w claim (short_file_size w claim) 2048 (record {
    permitted = two_thousand;
    taps_size = l;
    size_is = refl;
    claim_canonical = b;
    taps_canonical = a;
  }),
  (pack_5 w claim size).1 (λ t. omega (arith, l, t.2, t.1.high)),
)

-- ---- no full form
larger_refused : (file old : List ℕ) → NoFullForm file
    → (to_full_test file (length old) ≡ Err (WrongValue 0)) × (to_full_leaves file old ≡ old)
unfolding to_full_leaves
larger_refused file old h =
    let e = to_full.without file (length old) h in
    (e, ap (λ a. leaves a (packed (short_taps_in file) (short_claim_in file)) old) e)

module _ (file room d : List ℕ) (e : unpack_short_answer file (length room) ≡ Ok d) where
  abbrev NoBytes : Type 0
  NoBytes =
      (full : List ℕ) → unpack_answer full (length room) ≡ Ok d
      → unpack_leaves full room ≡ unpack_short_leaves file room → ⊥

  accepted : unpack_short_test file (length room) ≡ Ok tt
  accepted = (short.returned file (length room) d e).0

  room_is : length room ≡ tap_words (short_batches_in file)
  room_is = (short.unpack_accepted file (length room) accepted).1

  none : NoFullForm file → NoBytes
  none h full f l =
      let u = board.unpack_accepted full (length room) (board.returned full (length room) d f).0 in
      omega (arith, room_is, u.1, u.0.permitted.high, to_full.above_most file h)

  -- the converter's output is such a file
  formless : NoBytes → Dec (NoFullForm file) → NoFullForm file
  formless n (yes h) = h
  formless n (no m) =
      let old = packed (short_taps_in file) (short_claim_in file) in
      let read = ap (unpack_short_answer file) (sym room_is) ∙ e in
      let converted = (request_8.to_full_answers file (length old)).accepts.1 (d, read, m, refl) in
      let r = request_8.to_full_reads file old room converted in
      absurd (n (to_full_leaves file old) (r.0 ∙ e) r.1)

  no_form_exactly : NoFullForm file ↔ NoBytes
  no_form_exactly = (none, λ n. formless n (to_full.form file))

-- ---- the calls
call_stored : (file taps taps' claim claim' : List ℕ) (code : ℕ) (d : List ℕ)
    → stored_unpack_answer file (length taps) ≡ Ok d → length claim ≡ 4
    → UnpackShortCall file code taps taps' claim claim'
    → (code ≡ 0) × (taps' ≡ stored_unpack_leaves file taps) × (claim' ≡ d)
call_stored file taps taps' claim claim' code d e four called =
    let s = stored.stored_reads file taps d e in
    let h = reader_hands file taps taps' claim claim' code called d four s.0 in
    (h.0, h.1 ∙ s.1, h.2)

call_pack_5 : (w claim old new : List ℕ) (code : ℕ) → PackCall w claim old code new
    → (TapsFit most_file_batches w → ⊥) → (code ≡ refusal_code TapLength) × (new ≡ old)
unfolding answer_code pack_leaves
call_pack_5 w claim old new code called n =
    let e = (pack_5 w claim (length old)).1 n in
    (called.coded ∙ ap answer_code e, called.file ∙ ap (λ a. leaves a (packed w claim) old) e)

call_larger_refused : (file old new : List ℕ) (code : ℕ) → ToFullCall file old code new → NoFullForm file
    → (code ≡ refusal_code (WrongValue 0)) × (new ≡ old)
unfolding answer_code
call_larger_refused file old new code called h =
    let r = larger_refused file old h in
    (called.coded ∙ ap answer_code r.0, called.file ∙ r.1)

-- ---- the request
pub request_9 : Request9
request_9 = record {
  permitted_exactly = powers 18;
  full_exactly = powers 10;
  chain_5 = chain_5;
  build_5 = λ T w size e. build_5 T w e size;
  pack_5 = pack_5;
  pack_short_5 = pack_short_5;
  check_7 = check_7;
  read_off_7 = read_off_7;
  edit_7 = edit_7;
  unpack_14 = unpack_14;
  unpack_short_14 = unpack_short_14;
  to_full_14 = to_full_14;
  chains_24580 = λ T w e l a. demand_2.chains T w 2048 e two_thousand l a;
  builds_24580 = λ T w old e l a s. demand_2.builds T w old 2048 e two_thousand l a s;
  packs_24580 = packs_24580;
  stored_reads = stored.stored_reads;
  stored_answers = stored.stored_answers;
  stored_writes = stored.stored_writes;
  larger_refused = larger_refused;
  no_form_exactly = no_form_exactly;
  rooms = λ k p. (
    omega (arith, p.high),
    omega (arith, p.high),
    omega (arith, p.high),
    omega (arith, p.high),
    omega (arith, p.high),
  );
  call_stored = call_stored;
  call_pack_5 = call_pack_5;
  call_larger_refused = call_larger_refused;
}
