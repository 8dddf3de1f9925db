-- Short files already stored: where the reader and the writer before U9 accept, those of now do with the same outcome,
-- and which files the readers answer otherwise.
-- Assumes nothing.
use mathlib.Core.Path.{◌≡◌, refl, sym, ap, ap₂, ◌∙◌}
use mathlib.Core.Bool.{true}
use mathlib.Core.List.{List}
use mathlib.Core.Logic.{◌⊎◌, inl, inr}
use Prim.Native.Nat.{ℕ, ◌≤◌, ◌<◌}
use native.Mathlib.Decide.{ℕ_discrete, dec_le, dec_lt}
use native.Mathlib.Omega.{arith}
use borrow.Author.Tests.{eq-eqb, ne_eqb, eqb-true, le-leb, lt-leb}
use lib.Count.{ones}
use lib.Dec.{eqb, leb}
use lib.ListN.{length}
use Rattle.std.specs.Prelude.{Ok, Err}
use Rattle.lists.specs.Lists.{tab, each, sum, first}
use Rattle.field_words.specs.Words.{first_bad}
use Rattle.numbers.specs.Numbers.{IsPermittedTo, IsPermitted, most_batches, permitted, tap_word_batches, is_tap_length}
use Rattle.numbers.proofs.Laws.{permitted_to, permitted_sound, permitted_complete, tap_length_sound}
use Rattle.numbers.proofs.Laws.{tap_length_complete}
use Rattle.refusals.specs.Answers.{Answer, with_value, leaves}
use Rattle.refusals.specs.declared.Refusal.{Refusal}
use Rattle.refusals.specs.declared.Refusal.TheVariants.{TapLength, FileLength, WrongKind, WrongValue}
use Rattle.refusals.proofs.Laws.{not_accepted, passed, both_accepted, value_accepted, AnswerEnds, unless_ends}
use Rattle.refusals.proofs.Laws.{one_cause}
use Rattle.board_words.specs.Words.{kind_of, word_at}
use Rattle.board_words.specs.Elements.{element_at}
use Rattle.board.specs.Board.{most_file_batches}
use Rattle.board_short_words.specs.Short.{all_bytes_needed}
use Rattle.board_short_read.specs.Reading.{short_at, next_word, three_test, short_test, first_word, shorts_at}
use Rattle.board_short_read.specs.Reading.{shorts_test}
use Rattle.board_short_read.proofs.Round.{length_shorts}
use Rattle.board_short.specs.ShortBoard.{short_count_word, short_file_of, pack_short_test, packed_short}
use Rattle.board_short.specs.ShortBoard.{pack_short_leaves}
use Rattle.board_short.specs.ShortBoard.{short_count_in, mark_in, short_batches_in, short_claim_in, short_taps_in}
use Rattle.board_short.specs.ShortBoard.{short_count_test}
use Rattle.board_short.specs.ShortBoard.{unpack_short_test, unpack_short_answer, unpack_short_leaves}
use Rattle.board_short.proofs.Answers.{count_accepted, count_complete, count_fault_refused, kind, value}
use Rattle.board_to_full.specs.ToFull.{NoFullForm}
use Rattle.known_days.proofs.Files.{left, short_file}
use Rattle.demands.specs.Stored.{most_stored, stored_pack_test, stored_pack_leaves, stored_count_in, stored_spare_in}
use Rattle.demands.specs.Stored.{stored_batches_in, stored_taps_in, stored_count_test, stored_unpack_test}
use Rattle.demands.specs.Stored.{stored_unpack_answer, stored_unpack_leaves, stored_claim, stored_taps, stored_file}
use Rattle.demands.specs.Stored.{Stored}

-- ---- word 0: accepted exactly where it was the count word of a k permitted up to 1024
stored_count : (w : ℕ) → stored_count_test w ≡ Ok tt
    → (w ≡ short_count_word (stored_count_in w)) × IsPermittedTo most_stored (stored_count_in w)
unfolding stored_count_test
stored_count w e =
    let a = passed (eqb (kind_of w) 0) (WrongKind 0) _ e in
    let b = passed (eqb (mark_in w) 1) (WrongValue 0) _ a.1 in
    let c = passed (eqb (stored_spare_in w) 0) (WrongValue 0) _ b.1 in
    let d = passed (permitted most_stored (stored_count_in w)) (WrongValue 0) _ c.1 in
    let word : w ≡ short_count_word (stored_count_in w) = omega (
      arith,
      eqb-true (kind_of w) 0 a.0,
      eqb-true (mark_in w) 1 b.0,
      eqb-true (stored_spare_in w) 0 c.0,
    ) in
    (word, permitted_sound most_stored (stored_count_in w) d.0)

stored_complete : (k : ℕ) → IsPermittedTo most_stored k → stored_count_test (short_count_word k) ≡ Ok tt
unfolding stored_count_test
stored_complete k p =
    let k-is : stored_count_in (short_count_word k) ≡ k = omega (arith, p.high) in
    let zero-kind : kind_of (short_count_word k) ≡ 0 = omega (arith, p.high) in
    let mark : mark_in (short_count_word k) ≡ 1 = omega (arith, p.high) in
    let spare : stored_spare_in (short_count_word k) ≡ 0 = omega (arith, p.high) in
    let right = ap (permitted most_stored) k-is ∙ permitted_complete most_stored k p in
    rw (eq-eqb _ _ zero-kind, eq-eqb _ _ mark, eq-eqb _ _ spare, right)

-- and else refused for its kind, or with 14
by_kind : (w : ℕ) → (kind_of w ≡ 0 → ⊥) → stored_count_test w ≡ Err (WrongKind 0)
unfolding stored_count_test
by_kind w n = rw (ne_eqb _ _ n)

by_value : (w : ℕ) → kind_of w ≡ 0 → (stored_count_test w ≡ Ok tt → ⊥)
    → stored_count_test w ≡ Err (WrongValue 0)
unfolding stored_count_test
by_value w z n = one_cause (WrongValue 0) (stored_count_test w) ends n
  where
    Q : Refusal → Type 0
    Q s = s ≡ WrongValue 0

    ends : AnswerEnds Q (stored_count_test w)
    ends =
        rw (eq-eqb _ _ z)
        (unless_ends Q (eqb (mark_in w) 1) (WrongValue 0) _ (λ a. refl) λ a.
        unless_ends Q (eqb (stored_spare_in w) 0) (WrongValue 0) _ (λ b. refl) λ b.
        unless_ends Q (permitted most_stored (stored_count_in w)) (WrongValue 0) _ (λ c. refl) λ c. tt)

-- ---- the readers answer alike, but where word 0 counts more
module _ (file : List ℕ) where
  abbrev w : ℕ
  w = word_at file 0

  abbrev Alike : List ℕ → Type 0
  Alike old =
      (unpack_short_answer file (length old) ≡ stored_unpack_answer file (length old))
      × (unpack_short_leaves file old ≡ stored_unpack_leaves file old)

  -- where their tests find the same, and hold the same taps or none
  alike : (old : List ℕ) → unpack_short_test file (length old) ≡ stored_unpack_test file (length old)
      → short_taps_in file ≡ stored_taps_in file → Alike old
  unfolding unpack_short_answer unpack_short_leaves stored_unpack_answer stored_unpack_leaves
  alike old e t = (
    ap (λ a. with_value a (short_claim_in file)) e,
    ap₂ (λ a taps. leaves a taps old) e t,
  )

  refused_alike : (old : List ℕ) (r : Refusal) → unpack_short_test file (length old) ≡ Err r
      → stored_unpack_test file (length old) ≡ Err r → Alike old
  unfolding unpack_short_answer unpack_short_leaves stored_unpack_answer stored_unpack_leaves
  refused_alike old r e f = (rw (e, f) refl, rw (e, f) refl)

  -- word 0 was accepted
  same_count : (old : List ℕ) → stored_count_test w ≡ Ok tt → Alike old
  unfolding unpack_short_test stored_unpack_test short_batches_in stored_batches_in short_taps_in stored_taps_in
  same_count old e =
      let s = stored_count w e in
      let p = permitted_to most_batches (stored_count_in w) s.1 (omega (arith, s.1.high)) in
      let c = count_complete (stored_count_in w) p in
      let count = ap short_count_test s.0 ∙ c.1 in
      let k-is : short_count_in w ≡ stored_count_in w = ap short_count_in s.0 ∙ c.0 in
      alike old (rw (count, e, k-is) refl) (rw k-is refl)

  -- or refused, as it still is
  same_refusal : (old : List ℕ) (r : Refusal) → 4 ≤ length file → short_count_test w ≡ Err r
      → stored_count_test w ≡ Err r → Alike old
  unfolding unpack_short_test stored_unpack_test
  same_refusal old r four e f = refused_alike old r (rw (le-leb _ _ four, e)) (rw (le-leb _ _ four, f))

  too_short : (old : List ℕ) → length file < 4 → Alike old
  unfolding unpack_short_test stored_unpack_test
  too_short old h = refused_alike old FileLength (rw (lt-leb _ _ h)) (rw (lt-leb _ _ h))

  -- a file of more batches than it could have
  abbrev Larger : List ℕ → Type 0
  Larger old = NoFullForm file × (stored_unpack_answer file (length old) ≡ Err (WrongValue 0))

  larger : (old : List ℕ) → NoFullForm file → Larger old
  unfolding stored_unpack_answer stored_unpack_test
  larger old h =
      let none : stored_count_test w ≡ Ok tt → ⊥ =
      λ e. let s = stored_count w e in omega (arith, s.0, s.1.high, h.word, h.above, h.permitted.high) in
      let value = by_value w (omega (arith, h.word, h.permitted.high)) none in
      (h, rw (le-leb _ _ h.four, value))

  -- a k that is permitted now was so, or is above 1024
  counted : (old : List ℕ) → 4 ≤ length file → short_count_test w ≡ Ok tt → Alike old ⊎ Larger old
  counted old four e = go (dec_lt most_file_batches (short_count_in w))
    where
      go : Dec (most_file_batches < short_count_in w) → Alike old ⊎ Larger old
      go (yes above) =
          let c = count_accepted w e in
          inr (larger old (record {
            k = short_count_in w;
            four = four;
            word = c.0;
            permitted = c.1;
            above = above;
          }))
      go (no n) =
          let c = count_accepted w e in
          let p = permitted_to most_stored (short_count_in w) c.1 (omega (arith, n)) in
          inl (same_count old (ap stored_count_test c.0 ∙ stored_complete (short_count_in w) p))

  pub stored_answers : (old : List ℕ) → Alike old ⊎ Larger old
  stored_answers old = sized (dec_le 4 (length file))
    where
      kinded : 4 ≤ length file → (r : Refusal) → stored_count_test w ≡ Err r → (a : Answer)
          → short_count_test w ≡ a → Dec (kind_of w ≡ 0) → Alike old ⊎ Larger old
      kinded four r e (Ok _) f z = counted old four f
      kinded four r e (Err s) f (no n) =
          inl (same_refusal old (WrongKind 0) four (count_fault_refused w (WrongKind 0) (kind n refl)) (by_kind w n))
      kinded four r e (Err s) f (yes z) =
          let none : (k : ℕ) → IsPermitted k → w ≡ short_count_word k → ⊥ =
          λ k p q. not_accepted s (sym f ∙ ap short_count_test q ∙ (count_complete k p).1) in
          let old_value = by_value w z (λ a. not_accepted r (sym e ∙ a)) in
          let new-value = count_fault_refused w (WrongValue 0) (value z none refl) in
          inl (same_refusal old (WrongValue 0) four new-value old_value)

      was : 4 ≤ length file → (a : Answer) → stored_count_test w ≡ a → Alike old ⊎ Larger old
      was four (Ok _) e = inl (same_count old e)
      was four (Err r) e = kinded four r e (short_count_test w) refl (ℕ_discrete (kind_of w) 0)

      sized : Dec (4 ≤ length file) → Alike old ⊎ Larger old
      sized (yes four) = was four (stored_count_test w) refl
      sized (no n) = inl (too_short old (omega (arith, n)))

  pub stored_reads : (old d : List ℕ) → stored_unpack_answer file (length old) ≡ Ok d
      → (unpack_short_answer file (length old) ≡ Ok d)
      × (unpack_short_leaves file old ≡ stored_unpack_leaves file old)
  unfolding stored_unpack_answer stored_unpack_test
  stored_reads old d e =
      let t = (value_accepted (stored_unpack_test file (length old)) _ d e).0 in
      let a = passed (leb 4 (length file)) FileLength _ t in
      let b = both_accepted (stored_count_test w) _ a.1 in
      let s = same_count old b.0 in
      (s.0 ∙ e, s.1)

-- ---- the writers
longer : (n : ℕ) → is_tap_length most_stored n ≡ true → is_tap_length most_batches n ≡ true
longer n e =
    let s = tap_length_sound most_stored n e in
    let k = tap_word_batches n in
    let p = permitted_to most_batches k s.1 (omega (arith, s.1.high)) in
    (tap_length_complete most_batches n k s.0 p).0

pub stored_writes : (taps claim old : List ℕ) → stored_pack_test taps claim (length old) ≡ Ok tt
    → (pack_short_test taps claim (length old) ≡ Ok tt)
    × (pack_short_leaves taps claim old ≡ stored_pack_leaves taps claim old)
unfolding stored_pack_test pack_short_test pack_short_leaves stored_pack_leaves
stored_writes taps claim old e =
    let was = (passed (is_tap_length most_stored (length taps)) TapLength _ e).0 in
    let same : pack_short_test taps claim (length old) ≡ stored_pack_test taps claim (length old) =
    rw (was, longer (length taps) was) refl in
    (same ∙ e, ap (λ a. leaves a (packed_short taps claim) old) same)

-- ---- a claim that was read had four words
claim_words : (file : List ℕ) (size : ℕ) (d : List ℕ) → stored_unpack_answer file size ≡ Ok d → length d ≡ 4
unfolding stored_unpack_answer short_claim_in
claim_words file size d e =
    ap length (sym (value_accepted (stored_unpack_test file size) _ d e).1) ∙ length_shorts file 1 4

-- ---- the stored file, by computing
pub stored : Stored
unfolding ones tab each sum first first_bad word_at element_at all_bytes_needed next_word short_at three_test short_test first_word
    shorts_at shorts_test short_file_of pack_short_test packed_short short_claim_in stored_pack_test stored_pack_leaves stored_batches_in
    stored_taps_in stored_count_test stored_unpack_test stored_unpack_answer stored_unpack_leaves stored_claim stored_taps stored_file
stored = record {
  before_U9 = record {
    accepted = refl;
    written = left (stored_pack_test stored_taps stored_claim) 148 (packed_short stored_taps stored_claim) stored_file refl refl;
    returned = refl;
    read = left (stored_unpack_test stored_file) 28 (stored_taps_in stored_file) stored_taps refl refl;
  };
  since_U9 = short_file stored_taps stored_claim stored_file refl refl refl;
  claim_words = claim_words;
}
