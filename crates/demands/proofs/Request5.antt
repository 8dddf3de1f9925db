-- Request 5: Unhash answers the one pair whose Hash ends in the state. From the hash undone (crate `hash_undo`,
-- proofs/Theorems.antt); row 31 from request 3's final states, which it shows.
-- Assumes nothing.
use mathlib.Core.Path.{◌≡◌, refl, sym, ap, ◌∙◌, subst, subst₂}
use mathlib.Core.Bool.{Bool, true, false}
use mathlib.Core.List.{List, ◌++◌}
use mathlib.Core.Logic.{◌↔◌, ◌⊎◌, inl, inr, ⊎_elim}
use Prim.Native.Nat.{ℕ, ◌+◌, ◌*◌, ◌-◌, ◌≤◌, ◌<◌}
use native.Mathlib.Omega.{arith}
use borrow.Author.Tests.{eqb-true}
use lib.Dec.{eqb}
use lib.ListN.{length, length-append}
use Rattle.std.specs.Prelude.{Result, Ok, Err, take, drop}
use Rattle.lists.specs.Lists.{cell}
use Rattle.field.specs.Field.{P}
use Rattle.field_words.specs.Words.{CanonicalTo, AllCanonical, first_bad, canonical_words}
use Rattle.field_words.proofs.Laws.{bad_at, good_before, stops, scanned_bad, bad_test}
use Rattle.numbers.specs.Numbers.{IsPermitted, tap_word_batches, trace_word_batches}
use Rattle.refusals.specs.Refusals.{told}
use Rattle.refusals.specs.Answers.{Answer, unless, after, leaves}
use Rattle.refusals.specs.declared.Refusal.{Refusal}
use Rattle.refusals.specs.declared.Refusal.TheVariants.{TapWord, DestinationLength, NoPair}
use Rattle.refusals.proofs.Laws.{not_accepted, passed, both_accepted, value_accepted}
use Rattle.refusals.proofs.Laws.{value_refused, value_turned_back, value_returned, AnswerEnds}
use Rattle.table.specs.Table.{table_test}
use Rattle.table.proofs.Theorems.{test_sound, test_complete}
use Rattle.hash.specs.Hash.{final_state, input, tap, output_at}
use Rattle.hash.specs.Answers.{hash_test, hash_answer}
use Rattle.hash.proofs.States.{final_state_state}
use Rattle.trace.specs.Trace.{row}
use Rattle.trace.specs.Answers.{build_test, build_answer, build_leaves}
use Rattle.trace.proofs.Answers.{build_inputs}
use Rattle.trace.proofs.TraceCells.{output_is_tap, next_tap_is_tap}
use Rattle.check_constraints.specs.ReadOff.{read_taps}
use Rattle.check_trace.specs.Answers.{check_test, check_answer}
use Rattle.check_trace.proofs.Answers.{check_inputs}
use Rattle.check_exact.specs.Exact.{IsListFor}
use Rattle.check_exact.proofs.Exactness.{reads_that_list}
use Rattle.hash_undo.specs.Unhash.{input_before, taps_before, ends_in_zeros}
use Rattle.hash_undo.specs.Answers.{unhash_test, unhash_answer}
use Rattle.hash_undo.proofs.Theorems.{taps_size, answered_hash, hash_answered, answered_or_16, other_input}
use Rattle.call_results.specs.Code.{refusal_code, answer_code}
use Rattle.call_answers.specs.Calls.{hash_no_room, unhash_call_test, UnhashCall}
use Rattle.call_answers.proofs.Answers.{hash_no_room_refuses, unhash_room, unhash_without}
use Rattle.call_results.proofs.Bits.{zero_accepts}
use Rattle.call_answers.proofs.Endings.Table.{table_ends}
use Rattle.call_answers.proofs.Endings.Unhash.{unhash_ends}
use Rattle.call_answers.proofs.Theorems.{unhash_bits}
use Rattle.demands.specs.Request3.{Ends}
use Rattle.demands.specs.Request5.{EndsIn, GivesBack, Request5}
use Rattle.demands.proofs.Demand2.{demand_2}
use Rattle.demands.proofs.Request3.{request_3}

-- ---- the pair, and no other
one_pair : (T s words others : List ℕ) → length s ≡ 12 → length words ≡ 8 → length others ≡ 8
    → EndsIn T words s → EndsIn T others s → words ≡ others
one_pair T s words others twelve eight eight' e f =
    let both = sym (hash_answered T s twelve words eight e) ∙ hash_answered T s twelve others eight' f in
    (value_accepted (Ok tt) words others both).1

-- ---- 16
module _ (T s : List ℕ) where
  -- what was tested before it
  abbrev Tested : Type 0
  Tested = (table_test T ≡ Ok tt) × AllCanonical s

  abbrev At16 : Refusal → Type 0
  At16 r = (told r).number ≡ 16 → Tested

  at_16 : AnswerEnds At16 (unhash_test T s)
  at_16 =
      unhash_ends At16
      (record {
        by_length = λ h. absurd (omega arith);
        by_word = λ i l h. absurd (omega arith);
        by_cell = λ i l h. absurd (omega arith);
      })
      T s (λ i l h. absurd (omega arith)) (λ t c h. (t, c))

  reached : unhash_answer T s ≡ Err NoPair → Tested
  unfolding unhash_answer
  reached e = subst (AnswerEnds At16) (value_refused (unhash_test T s) _ NoPair e) at_16 refl

  sixteen_exactly : length s ≡ 12
      → (unhash_answer T s ≡ Err NoPair)
      ↔ ((table_test T ≡ Ok tt) × AllCanonical s
      × ((words : List ℕ) → length words ≡ 8 → EndsIn T words s → ⊥))
  sixteen_exactly twelve = (
    λ e.
        let r = reached e in
        (r.0, r.1, λ words eight h. not_both words (sym (hash_answered T s twelve words eight h) ∙ e)),
    λ h.
        ⊎_elim (λ (w : (words : List ℕ) × (length words ≡ 8) × EndsIn T words s). absurd (h.2 w.0 w.1 w.2))
        (λ (e : unhash_answer T s ≡ Err NoPair). e)
        (answered_or_16 T s twelve (test_sound T h.0) h.1),
  )
    where
      not_both : (words : List ℕ) → ◌≡◌ {A = Result (List ℕ) Refusal} (Ok words) (Err NoPair) → ⊥
      not_both words e = not_accepted NoPair (sym (value_refused (Ok tt) words NoPair e))

-- ---- what comes before
table_first : (T s : List ℕ) (r : Refusal) → table_test T ≡ Err r → unhash_answer T s ≡ Err r
unfolding unhash_answer unhash_test
table_first T s r e = rw e

module _ (T s : List ℕ) (i : ℕ) where
  -- the table is never refused with 6
  table_never_6 : AnswerEnds (λ r. (told r).number ≡ 6 → ⊥) (table_test T)
  table_never_6 =
      table_ends (λ r. (told r).number ≡ 6 → ⊥)
      (record { by_length = λ h. omega arith; by_word = λ n l h. omega arith; by_cell = λ n l h. omega arith }) T

  -- what is known where 6 is answered
  named : (a : Answer) (b z : Bool) → AnswerEnds (λ r. (told r).number ≡ 6 → ⊥) a
      → after a (unless b (TapWord (first_bad s)) (unless z NoPair (Ok tt))) ≡ Err (TapWord i)
      → (a ≡ Ok tt) × (b ≡ false) × (first_bad s ≡ i)
  named (Ok _) false z n e = (refl, refl, cc)
  named (Ok _) true false n e = absurd (let z : ◌≡◌ {A = ℕ} 0 1 = cc in omega arith)
  named (Ok _) true true n e = absurd (let z : ◌≡◌ {A = ℕ} 0 1 = cc in omega arith)
  named (Err r) b z n e = absurd (n (ap (λ x. (told x).number) (one e)))
    where
      one : {p q : Refusal} → ◌≡◌ {A = Answer} (Err p) (Err q) → p ≡ q
      one e = cc

  six_exactly : length s ≡ 12
      → (unhash_answer T s ≡ Err (TapWord i))
      ↔ ((table_test T ≡ Ok tt) × (i < 12) × (P ≤ cell s i) × CanonicalTo i s)
  unfolding unhash_answer unhash_test
  six_exactly twelve = (
    λ e.
        let n =
        named (table_test T) (canonical_words s) (ends_in_zeros (input_before T s)) table_never_6
        (value_refused (unhash_test T s) _ (TapWord i) e) in
        let inside = bad_test s n.1 in (
          n.0,
          omega (arith, inside, n.2),
          subst (λ j. P ≤ cell s j) n.2 (bad_at s inside),
          subst (λ j. CanonicalTo j s) n.2 (good_before s),
        ),
    λ h.
        let first = stops s i (omega (arith, h.1)) h.3 h.2 in
        let other : canonical_words s ≡ false = scanned_bad s first (λ e. omega (arith, h.1)) in
        let refuses : unhash_test T s ≡ Err (TapWord i) = rw (h.0, other, first) in
        sym (value_turned_back refl _ refuses),
  )

answers : (T s : List ℕ) → length s ≡ 12 → table_test T ≡ Ok tt → AllCanonical s
    → ((p : List ℕ) × (unhash_answer T s ≡ Ok p)) ⊎ (unhash_answer T s ≡ Err NoPair)
answers T s twelve table canonical =
    ⊎_elim
    (λ (w : (words : List ℕ) × (length words ≡ 8) × EndsIn T words s).
    inl (w.0, hash_answered T s twelve w.0 w.1 w.2))
    (λ (e : unhash_answer T s ≡ Err NoPair). inr e)
    (answered_or_16 T s twelve (test_sound T table) canonical)

-- ---- there and back
unhash_of_hash : (T words s : List ℕ) → length words ≡ 8 → hash_answer T words ≡ Ok s
    → unhash_answer T s ≡ Ok words
unfolding hash_answer
unhash_of_hash T words s eight e =
    let a = value_accepted (hash_test T words) _ s e in
    let twelve = subst (λ x. length x ≡ 12) a.1 (final_state_state T (input (take 4 words) (drop 4 words))).size in
    hash_answered T s twelve words eight e

hash_of_unhash : (T s p : List ℕ) → length s ≡ 12 → unhash_answer T s ≡ Ok p
    → hash_answer T p ≡ Ok s
unfolding unhash_answer
hash_of_unhash T s p twelve e =
    let a = value_accepted (unhash_test T s) _ p e in
    answered_hash T s twelve p (subst (λ x. length x ≡ 8) a.1 (taps_size T s)) e

-- ---- the call from another language
module _ (T s old new : List ℕ) (code : ℕ) (called : UnhashCall T s code old new) where
  -- the tests of the call, and of the operation where there is room
  abbrev asked : Answer
  asked = unhash_call_test T s (length old)

  -- a word that says no refusal is that of an acceptance
  accepted : length s ≡ 12 → code ≡ 0 → asked ≡ Ok tt
  accepted twelve e = zero_accepts asked (unhash_bits T s (length old) twelve) (sym called.coded ∙ e)

  -- an acceptance has room, and then writes the two taps
  has_room : asked ≡ Ok tt → length old ≡ 8
  unfolding unhash_call_test
  has_room e =
      let a = both_accepted (table_test T) _ e in
      eqb-true (length old) 8 (passed (eqb (length old) 8) DestinationLength _ a.1).0

  written : asked ≡ Ok tt → new ≡ taps_before T s
  written e = called.taps ∙ ap (λ t. leaves t (taps_before T s) old) e

  eight_left : length old ≡ 8 → length new ≡ 8
  eight_left room = ap length called.taps ∙ go asked
    where
      go : (t : Answer) → length (leaves t (taps_before T s) old) ≡ 8
      go (Ok _) = taps_size T s
      go (Err r) = room

  call_exactly : length s ≡ 12 → (code ≡ 0) ↔ ((length old ≡ 8) × EndsIn T new s)
  unfolding unhash_answer answer_code
  call_exactly twelve = (
    λ e.
        let a = accepted twelve e in
        let room = has_room a in
        let passes = unhash_room T s (length old) room ∙ a in
        let found = sym (value_returned refl passes refl) in (
          room,
          subst (λ w. EndsIn T w s) (sym (written a)) (answered_hash T s twelve (taps_before T s) (taps_size T s) found),
        ),
    λ h.
        let found = hash_answered T s twelve new (eight_left h.0) h.1 in
        let passes = (value_accepted (unhash_test T s) _ new found).0 in
        called.coded ∙ ap answer_code (sym (unhash_room T s (length old) h.0) ∙ passes),
  )

  call_refuses : (r : Refusal) → length old ≡ 8 → unhash_answer T s ≡ Err r → (code ≡ refusal_code r) × (new ≡ old)
  unfolding unhash_answer answer_code
  call_refuses r room e =
      let refuses = sym (unhash_room T s (length old) room) ∙ value_refused (unhash_test T s) _ r e in
      (called.coded ∙ ap answer_code refuses, called.taps ∙ ap (λ t. leaves t (taps_before T s) old) refuses)

  call_without : (length old ≡ 8 → ⊥)
      → (code ≡ answer_code (after (table_test T) (Err DestinationLength))) × (new ≡ old)
  unfolding hash_no_room
  call_without without =
      let refuses = unhash_without T s (length old) without in
      let r = hash_no_room_refuses T in (
        called.coded ∙ ap answer_code refuses,
        called.taps ∙ ap (λ t. leaves t (taps_before T s) old) (refuses ∙ r.1),
      )

-- ---- row 31
module _ (T w : List ℕ) (k : ℕ) (permitted : IsPermitted k) (size : length w ≡ 12 * k + 4) (canonical : AllCanonical w)
    (t d : List ℕ) (shown : Ends T w k k t d) where
  rows_31 : (b : ℕ) → b < k
      → unhash_answer T (row t (32 * b + 31)) ≡ Ok (output_at T w (3 * b + 2) ++ tap w (3 * b + 3))
  rows_31 b l =
      let h = 3 * b + 2 in
      let r = shown.rows_31 b l in
      let next : h + 1 ≡ 3 * b + 3 = omega arith in
      let eight : length (output_at T w h ++ tap w (h + 1)) ≡ 8 =
      length-append (output_at T w h) (tap w (h + 1))
      ∙ omega (
        arith,
        (output_is_tap T w k size canonical h).size,
        (next_tap_is_tap T w k size canonical h (omega arith)).size,
      ) in
      ap (unhash_answer T) (sym r.2)
      ∙ unhash_of_hash T (output_at T w h ++ tap w (h + 1)) r.0 eight r.1
      ∙ ap (λ n. Ok (output_at T w h ++ tap w n)) next

  gives_back : GivesBack T w k t
  gives_back =
      let last = rows_31 (k - 1) (omega (arith, permitted.low)) in
      record { rows_31 = rows_31; last_row_is = rw (a, b, c) at last }
    where
      a : 32 * (k - 1) + 31 ≡ 32 * k - 1
      a = omega (arith, permitted.low)

      b : 3 * (k - 1) + 2 ≡ 3 * k - 1
      b = omega (arith, permitted.low)

      c : 3 * (k - 1) + 3 ≡ 3 * k
      c = omega (arith, permitted.low)

builds : (T w old d : List ℕ) → build_answer T w (length old) ≡ Ok d
    → GivesBack T w (tap_word_batches (length w)) (build_leaves T w old)
unfolding build_answer
builds T w old d e =
    let i = build_inputs T w (length old) (value_accepted (build_test T w (length old)) _ d e).0 in
    gives_back T w (tap_word_batches (length w)) i.permitted i.taps i.canonical (build_leaves T w old) d
    (request_3.builds T w old d e)

-- an accepted trace is one that was built
checks : (T t claim : List ℕ) (c n : ℕ) → length claim ≡ 4 → check_answer T t claim c ≡ Ok n
    → (k : ℕ) × (w : List ℕ) × IsListFor T t claim c k w × GivesBack T w k t
unfolding check_answer
checks T t claim c n four e =
    let k = trace_word_batches (length t) in
    let w = read_taps T t k in
    let i = check_inputs T t claim c (value_accepted (check_test T t claim c) _ n e).0 in
    let o = i.0.opening in
    let list = reads_that_list T t claim c k o.table o.permitted o.low o.high o.size i.0.canonical
    four i.1 in
    let table = test_complete T o.table in
    let b = demand_2.builds T w t k table o.permitted list.size list.canonical o.size in
    let batches : tap_word_batches (length w) ≡ k = omega (arith, list.size) in
    (k, w, list, subst₂ (GivesBack T w) batches (b.1 ∙ list.traced) (builds T w t _ b.0))

-- ---- the request
pub request_5 : Request5
request_5 = record {
  exactly = λ T s words twelve eight. (answered_hash T s twelve words eight, hash_answered T s twelve words eight);
  one_pair = one_pair;
  sixteen_exactly = sixteen_exactly;
  other_inputs = λ T x j table size canonical.
      other_input T x j (test_sound T table) (record { size = size; canonical = canonical });
  answers = answers;
  table_first = table_first;
  six_exactly = six_exactly;
  unhash_of_hash = unhash_of_hash;
  hash_of_unhash = hash_of_unhash;
  call_exactly = λ T s old new code twelve called. call_exactly T s old new code called twelve;
  call_refuses = λ T s old new code r called. call_refuses T s old new code called r;
  call_without = call_without;
  builds = builds;
  checks = checks;
}
