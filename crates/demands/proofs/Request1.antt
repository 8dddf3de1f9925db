-- Request 1: an edit turns the lent trace into that of the altered list, as a fresh build does, and returns the output
-- of its first 3c + 1 taps. From demand 1's refusals, demand 2's building and reading off, and from the rows that an
-- edit touches (crate `trace_edit`, proofs/Theorems.antt).
-- Assumes nothing.
use mathlib.Core.Path.{◌≡◌, refl, sym, ap, ap₂, ◌∙◌, subst, subst₂}
use mathlib.Core.Bool.{Bool, true, false}
use mathlib.Core.List.{List}
use mathlib.Core.Logic.{⊎_elim, inl, inr, ◌↔◌}
use Prim.Native.Nat.{ℕ, ◌+◌, ◌*◌, ◌≤◌, ◌<◌}
use native.Mathlib.Decide.{ℕ_discrete}
use native.Mathlib.Omega.{arith}
use borrow.Author.Tests.{eqb-false}
use lib.Dec.{eqb}
use lib.ListN.{length}
use Rattle.std.specs.Prelude.{Ok, Err}
use Rattle.field_words.specs.Words.{AllCanonical, first_bad, IsFirstBad, canonical_words}
use Rattle.field_words.proofs.Laws.{good_test}
use Rattle.numbers.specs.Numbers.{IsPermitted, tap_word_batches, trace_word_batches}
use Rattle.refusals.specs.Refusals.{told}
use Rattle.refusals.specs.Answers.{unless, with_value}
use Rattle.refusals.specs.Causes.{by, by_index, in_order}
use Rattle.refusals.specs.declared.Refusal.{Refusal}
use Rattle.refusals.specs.declared.Refusal.TheVariants.{TableLength, TableWord, WrongInverse, TapWord, TraceLength}
use Rattle.refusals.specs.declared.Refusal.TheVariants.{DestinationLength, ClaimWord, TraceWord, NoSuchTap}
use Rattle.refusals.specs.declared.Refusal.TheVariants.{ClaimBatches}
use Rattle.refusals.proofs.Laws.{passed, value_accepted, value_refused, leaves_new}
use Rattle.refusals.proofs.Causes.{Never, never_by, never_index, never_either, reached}
use Rattle.table.specs.Table.{IsTable}
use Rattle.table.proofs.Theorems.{test_sound, test_complete}
use Rattle.hash.specs.Hash.{output_at, chain, first_taps}
use Rattle.hash_chain.proofs.FirstTaps.{chain_first}
use Rattle.trace.specs.Trace.{trace, row}
use Rattle.trace.specs.Answers.{build_answer, build_leaves}
use Rattle.trace.proofs.TraceCells.{length_trace, output_is_tap}
use Rattle.check_constraints.specs.ReadOff.{read_taps}
use Rattle.check_trace.specs.Answers.{check_answer}
use Rattle.check_trace.proofs.Answers.{Opened, opened, opens, CheckInputs}
use Rattle.trace_read_off.specs.Answers.{read_off_answer, read_off_leaves}
use Rattle.trace_read_off.proofs.Theorems.{same_for}
use Rattle.check_exact.specs.Exact.{IsListFor}
use Rattle.check_exact.proofs.Exactness.{reads_that_list, only_one}
use Rattle.trace_rewrite.specs.Edit.{altered, first_touched}
use Rattle.trace_edit.specs.Answers.{edit_test, altered_taps, edit_answer, edit_leaves}
use Rattle.trace_rewrite.proofs.Altered.{length_altered, altered_canonical, altered_same, output_before}
use Rattle.trace_edit.proofs.Answers.{edit_inputs}
use Rattle.trace_edit.proofs.Theorems.{accepts_exactly, earlier_rows, row_tells_tap}
use Rattle.call_results.specs.Code.{words_code, Says}
use Rattle.call_answers.specs.Calls.{EditCall}
use Rattle.call_answers.proofs.Answers.{edit_answer_lem}
use Rattle.demands.specs.Request1.{Edited, InRange, IsAbove, IsBadTap, Request1}
use Rattle.demands.specs.TurnedBack.{opening_causes, constraint_causes, edit_call_causes}
use Rattle.demands.proofs.Called as Called
use Rattle.demands.proofs.Demand1.{demand_1}
use Rattle.demands.proofs.Demand2.{demand_2}
use Rattle.demands.proofs.TurnedBack.{words, opening, turned_back}

-- ---- what was built from a list v
module _ (T v : List ℕ) (k : ℕ) (table : IsTable T) (permitted : IsPermitted k) (size : length v ≡ 12 * k + 4)
    (canonical : AllCanonical v) where
  built : (old : List ℕ) → length old ≡ 384 * k
      → (build_answer T v (length old) ≡ Ok (chain T v k)) × (build_leaves T v old ≡ trace T v k)
  built old l = demand_2.builds T v old k (test_complete T table) permitted size canonical l

  module _ (c : ℕ) (low : 1 ≤ c) (high : c ≤ k) where
    -- the output of the first 3c + 1 taps, as it is returned
    abbrev output : List ℕ
    output = chain T (first_taps c v) c

    -- under it
    read : (room : List ℕ) → length room ≡ 12 * k + 4
        → (read_off_answer T (trace T v k) output c (length room) ≡ Ok (372 * k))
        × (read_off_leaves T (trace T v k) output c room ≡ v)
    read room l =
        let b = built (trace T v k) (length_trace T v k) in
        let batches : tap_word_batches (length v) ≡ k = omega arith in
        let r = demand_2.reads_back_early T v (trace T v k) room c (chain T v k) b.0 (l ∙ sym size) low
        (omega arith) in (
          ap (λ s. read_off_answer T s output c (length room)) (sym b.1)
              ∙ r.0
              ∙ ap (λ m. Ok (372 * m)) batches,
          ap (λ s. read_off_leaves T s output c room) (sym b.1) ∙ r.1,
        )

    checked : check_answer T (trace T v k) output c ≡ Ok (372 * k)
    checked =
        sym (same_for T (trace T v k) output c k (length_trace T v k))
        ∙ ap (read_off_answer T (trace T v k) output c) (sym size)
        ∙ (read v size).0

-- ---- a tap above 3c alters no output of c batches
unaltered : (T w : List ℕ) (c n : ℕ) (new : List ℕ) → length new ≡ 4 → 4 * n + 4 ≤ length w → 3 * c < n
    → chain T (altered w n new) c ≡ chain T w c
unfolding chain
unaltered T w c n new four inside l = output_before w n new four inside T (3 * c) l

-- ---- an edit of tap n of the list w that t stands for
module _ (T t claim : List ℕ) (c k n : ℕ) (new w : List ℕ) (inputs : CheckInputs T t claim c k)
    (list : IsListFor T t claim c k w) (there : n ≤ 3 * k) (four : length claim ≡ 4) (four' : length new ≡ 4)
    (words : AllCanonical new) where
  edited : let v = altered w n new in
      Edited T t claim c n new (trace T v k) (chain T (first_taps c v) c) k w
  edited = record {
    permitted = o.permitted;
    claimed = (o.low, o.high);
    size = o.size;
    stands_for = list;
    no_other = λ u l.
        only_one T t claim c k o.table o.permitted o.low o.high o.size inputs.canonical four u w l
        list;
    trace_is = refl;
    output_is = refl;
    as_built = built T v k o.table o.permitted size canonical;
    as_returned = λ old l e.
        (built T v k o.table o.permitted size canonical old l).0
        ∙ ap (λ s. Ok s) (sym (chain_first T v c ∙ ap (chain T v) e));
    checks = checked T v k o.table o.permitted size canonical c o.low o.high;
    reads_off = read T v k o.table o.permitted size canonical c o.low o.high;
    earlier_rows = λ i l.
        earlier_rows T w k n new o.table some list.size list.canonical there four' words i l
        ∙ ap (λ s. row s i) list.traced;
    touches = λ other same.
        other
        (row_tells_tap T w k n new o.table some list.size list.canonical there four' words
        (same ∙ ap (λ s. row s (first_touched n)) (sym list.traced)));
    after_claim = λ l. returned (chain_first T v c ∙ unaltered T w c n new four' inside l ∙ sym (chain_first T w c));
    same_tap = λ e.
        let same = altered_same w n new four' inside e in
        (ap (λ u. trace T u k) same ∙ list.traced, returned (ap (λ u. chain T (first_taps c u) c) same));
  }
    where
      o : Opened T t c k
      o = inputs.opening

      v : List ℕ
      v = altered w n new

      some : 1 ≤ k
      some = o.permitted.low

      inside : 4 * n + 4 ≤ length w
      inside = omega (arith, list.size)

      size : length v ≡ 12 * k + 4
      size = length_altered w n new four' inside ∙ list.size

      canonical : AllCanonical v
      canonical = altered_canonical w n new four' inside list.canonical words

      -- an output that is the old one is the claim
      returned : chain T (first_taps c v) c ≡ chain T (first_taps c w) c
          → (chain T (first_taps c v) c) ≡ claim
      returned e = e ∙ list.chains

edits : (T t claim : List ℕ) (c n : ℕ) (new d : List ℕ) → length claim ≡ 4 → length new ≡ 4
    → edit_answer T t claim c n new ≡ Ok d
    → (k : ℕ) × (w : List ℕ) × Edited T t claim c n new (edit_leaves T t claim c n new) d k w
unfolding edit_answer edit_leaves altered_taps
edits T t claim c n new d four four' e =
    let k = trace_word_batches (length t) in
    let w = read_taps T t k in
    let a = value_accepted (edit_test T t claim c n new) _ d e in
    let i = edit_inputs T t claim c n new a.0 in
    let o = i.0.opening in
    let list = reads_that_list T t claim c k o.table o.permitted o.low o.high o.size i.0.canonical
    four i.3 in
    let left = leaves_new (sym a.0) t refl refl in (
      k,
      w,
      subst₂ (λ s x. Edited T t claim c n new s x k w) left a.1
          (edited T t claim c k n new w i.0 list i.1 four four' i.2),
    )

-- ---- 15 and 6
module _ (T t : List ℕ) (c : ℕ) where
  abbrev batches : ℕ
  batches = trace_word_batches (length t)

  -- no cause holds for which the opening tests refuse
  abbrev Clear : Type 0
  Clear = (q : Refusal) → opening_causes T t c q → ⊥

  clear_range : Clear → InRange T t c batches
  clear_range none =
      let o = opened T t c ((opening T t c).accepts_exactly.1 none) in
      record {
        table = test_complete T o.table;
        permitted = o.permitted;
        size = o.size;
        claimed = (o.low, o.high);
      }

  range_clear : (k : ℕ) → InRange T t c k → Clear × (batches ≡ k)
  range_clear k r =
      let o : Opened T t c k = record {
        table = test_sound T r.table;
        permitted = r.permitted;
        size = r.size;
        low = r.claimed.0;
        high = r.claimed.1;
      } in
      ((opening T t c).accepts_exactly.0 (opens T t c k o), omega (arith, r.size))

  -- they never refuse with another number than 1, 2, 4, 7 and 17
  opening_never : (n : ℕ) → eqb 1 n ≡ false → eqb 2 n ≡ false → eqb 4 n ≡ false → eqb 7 n ≡ false → eqb 17 n ≡ false
      → Never n (opening_causes T t c)
  opening_never n a b d e f =
      never_either n _ _
      (never_either n _ _ (never_by n TableLength _ a)
      (never_either n _ _ (never_index n TableWord _ (λ i. b)) (never_index n WrongInverse _ (λ i. d))))
      (never_either n _ _ (never_by n TraceLength _ e) (never_by n ClaimBatches _ f))

  -- 15, whatever comes after it
  fifteen : (n : ℕ) (next : Refusal → Type 0) → Never 15 next
      → in_order (opening_causes T t c) (in_order (by NoSuchTap (3 * batches < n)) next) NoSuchTap ↔ IsAbove T t c n
  fifteen n next never = (
    λ h.
        let above = by NoSuchTap (3 * batches < n) in
        let r = reached 15 (opening_causes T t c) (in_order above next) (opening_never 15 refl refl refl refl refl)
        NoSuchTap refl h in (
          batches,
          clear_range r.0,
          ⊎_elim (λ (l : above NoSuchTap). l.0)
              (λ (l : ((q : Refusal) → above q → ⊥) × next NoSuchTap). absurd (never NoSuchTap l.1 refl)) r.1,
        ),
    λ h. (let r = range_clear h.0 h.1 in inr (r.0, inl (omega (arith, h.2, r.1), refl))),
  )

module _ (T t claim : List ℕ) (c n : ℕ) (new : List ℕ) where
  -- 6 after 9 and 10, and before 11
  abbrev from_claim : Refusal → Type 0
  from_claim =
      in_order (by_index ClaimWord (IsFirstBad claim))
      (in_order (by_index TraceWord (IsFirstBad t))
      (in_order (by_index TapWord (IsFirstBad new))
      (constraint_causes T t claim c)))

  constraints_never : (m : ℕ) → eqb 11 m ≡ false → Never m (constraint_causes T t claim c)
  constraints_never m e r f h = eqb-false 11 m e (ap (λ x. (told x).number) (sym f.4) ∙ h)

  from_claim_never : Never 15 from_claim
  from_claim_never =
      never_either 15 _ _ (never_index 15 ClaimWord _ (λ i. refl))
      (never_either 15 _ _ (never_index 15 TraceWord _ (λ i. refl))
      (never_either 15 _ _ (never_index 15 TapWord _ (λ i. refl)) (constraints_never 15 refl)))

  -- words are canonical exactly where none is the first that is not
  all_words : (q : ℕ → Refusal) (s : List ℕ) → ((r : Refusal) → by_index q (IsFirstBad s) r → ⊥) → AllCanonical s
  all_words q s none = good_test s (passes (canonical_words s) ((words q s).accepts_exactly.1 none))
    where
      passes : (b : Bool) → unless b (q (first_bad s)) (Ok tt) ≡ Ok tt → b ≡ true
      passes b e = (passed b (q (first_bad s)) (Ok tt) e).0

  none_bad : (q : ℕ → Refusal) (s : List ℕ) → AllCanonical s → (r : Refusal) → by_index q (IsFirstBad s) r → ⊥
  none_bad q s all r h = h.1.bad (all h.0 h.1.within)

  -- the causes from 10 on, and from 6 on
  abbrev from_tap : Refusal → Type 0
  from_tap = in_order (by_index TapWord (IsFirstBad new)) (constraint_causes T t claim c)

  abbrev from_trace : Refusal → Type 0
  from_trace = in_order (by_index TraceWord (IsFirstBad t)) from_tap

  six : (i : ℕ) → from_claim (TapWord i) ↔ (AllCanonical claim × AllCanonical t × IsFirstBad new i)
  six i = (
    λ h.
        let a = reached 6 (by_index ClaimWord (IsFirstBad claim)) from_trace (never_index 6 ClaimWord _ (λ j. refl))
        (TapWord i) refl h in
        let b = reached 6 (by_index TraceWord (IsFirstBad t)) from_tap (never_index 6 TraceWord _ (λ j. refl)) (TapWord i)
        refl a.1 in
        (all_words ClaimWord claim a.0, all_words TraceWord t b.0, named b.1),
    λ h. inr (none_bad ClaimWord claim h.0, inr (none_bad TraceWord t h.1, inl (i, h.2, refl))),
  )
    where
      at : (j : ℕ) → IsFirstBad new j → TapWord i ≡ TapWord j → IsFirstBad new i
      at j h e = let same : j ≡ i = cc in subst (IsFirstBad new) same h

      named : from_tap (TapWord i) → IsFirstBad new i
      named (inl x) = at x.0 x.1 x.2
      named (inr x) = absurd (constraints_never 6 refl (TapWord i) x.1 refl)

  -- after the opening tests and 15
  six_from : (next : Refusal → Type 0) (P : Type 0) (i : ℕ) → next (TapWord i) ↔ P
      → in_order (opening_causes T t c) (in_order (by NoSuchTap (3 * batches T t c < n)) next) (TapWord i)
      ↔ ((k : ℕ) × InRange T t c k × (n ≤ 3 * k) × P)
  six_from next P i rest = (
    λ h.
        let above = by NoSuchTap (3 * batches T t c < n) in
        let a = reached 6 (opening_causes T t c) (in_order above next) (opening_never T t c 6 refl refl refl refl refl)
        (TapWord i) refl h in
        let b = reached 6 above next (never_by 6 NoSuchTap _ refl) (TapWord i) refl a.1 in
        let inside : 3 * batches T t c < n → ⊥ = λ l. b.0 NoSuchTap (l, refl) in
        (batches T t c, clear_range T t c a.0, omega (arith, inside), rest.0 b.1),
    λ h.
        let r = range_clear T t c h.0 h.1 in
        inr (r.0, inr (λ q l. omega (arith, l.0, h.2, r.1), rest.1 h.3)),
  )

  fifteen_exactly : (edit_answer T t claim c n new ≡ Err NoSuchTap) ↔ IsAbove T t c n
  unfolding edit_answer
  fifteen_exactly =
      let d = (turned_back.edit T t claim c n new).refuses_exactly NoSuchTap in
      let f = fifteen T t c n from_claim from_claim_never in (
        λ e. f.0 (d.0 (value_refused (edit_test T t claim c n new) _ NoSuchTap e)),
        λ h. ap (λ a. with_value a (chain T (first_taps c (altered_taps T t n new)) c)) (d.1 (f.1 h)),
      )

  six_exactly : (i : ℕ) → (edit_answer T t claim c n new ≡ Err (TapWord i)) ↔ IsBadTap T t claim c n new i
  unfolding edit_answer
  six_exactly i =
      let d = (turned_back.edit T t claim c n new).refuses_exactly (TapWord i) in
      let f = six_from from_claim (AllCanonical claim × AllCanonical t × IsFirstBad new i) i (six i) in (
        λ e.
            let x = f.0 (d.0 (value_refused (edit_test T t claim c n new) _ (TapWord i) e)) in
            (x.0, x.1, x.2, x.3.0, x.3.1, x.3.2),
        λ h.
            let refused = d.1 (f.1 (h.0, h.1, h.2, (h.3, h.4, h.5))) in
            ap (λ a. with_value a (chain T (first_taps c (altered_taps T t n new)) c)) refused,
      )

-- ---- the call
module _ (T t claim : List ℕ) (c n : ℕ) (new t' output output' : List ℕ) (code : ℕ) (four-claim : length claim ≡ 4)
    (four-new : length new ≡ 4) (called : EditCall T t claim c n new code t' output output') where
  call_accepts_exactly : (code ≡ 0)
      ↔ ((length output ≡ 4) × ((m : ℕ) × (check_answer T t claim c ≡ Ok m))
      × (n ≤ 3 * trace_word_batches (length t)) × AllCanonical new)
  unfolding words_code
  call_accepts_exactly = (
    λ z.
        let zero = subst (λ x. EditCall T t claim c n new x t' output output') z called in
        let e = Called.edited T t claim c n new t' output output' four-claim four-new zero in
        let a = (accepts_exactly T t claim c n new).0 (e.1.0, e.1.1) in
        (e.0, a.0, a.1, a.2),
    λ h.
        let a = (accepts_exactly T t claim c n new).1 (h.1, h.2, h.3) in
        called.four.coded
        ∙ ap words_code (sym (edit_answer_lem (length output) h.0 T t claim c n new) ∙ a.1),
  )

  by_causes : (r : Refusal) → Says code (told r) ↔ edit_call_causes T t claim c n new (length output) r
  by_causes =
      (turned_back.edit_called T t claim c n new t' output output' code four-claim four-new called).refuses_exactly

  call_15 : Says code (told NoSuchTap) ↔ IsAbove T t c n
  call_15 =
      let d = by_causes NoSuchTap in
      let f = fifteen T t c n _ (never_either 15 _ _ (never_by 15 DestinationLength _ refl)
      (from_claim_never T t claim c n new)) in
      (λ s. f.0 (d.0 s), λ h. d.1 (f.1 h))

  call_6 : (i : ℕ) → Says code (told (TapWord i)) ↔ ((length output ≡ 4) × IsBadTap T t claim c n new i)
  call_6 i =
      let d = by_causes (TapWord i) in
      let f = six_from T t claim c n new (in_order full (from_claim T t claim c n new))
      ((length output ≡ 4) × (AllCanonical claim × AllCanonical t × IsFirstBad new i)) i roomed in (
        λ s.
            let x = f.0 (d.0 s) in
            let y = x.3.1 in
            (x.3.0, (x.0, x.1, x.2, y.0, y.1, y.2)),
        λ h. (let x = h.1 in d.1 (f.1 (x.0, x.1, x.2, (h.0, (x.3, x.4, x.5))))),
      )
    where
      -- 8
      full : Refusal → Type 0
      full = by DestinationLength (length output ≡ 4 → ⊥)

      room : Dec (length output ≡ 4) → ((q : Refusal) → full q → ⊥) → length output ≡ 4
      room (yes four) none = four
      room (no other) none = absurd (none DestinationLength (other, refl))

      roomed : in_order full (from_claim T t claim c n new) (TapWord i)
          ↔ ((length output ≡ 4) × (AllCanonical claim × AllCanonical t × IsFirstBad new i))
      roomed = (
        λ h.
            let a = reached 6 full (from_claim T t claim c n new) (never_by 6 DestinationLength _ refl) (TapWord i) refl
            h in
            (room (ℕ_discrete (length output) 4) a.0, (six T t claim c n new i).0 a.1),
        λ h. inr (λ q o. o.0 h.0, (six T t claim c n new i).1 h.1),
      )

call_edits : (T t claim : List ℕ) (c n : ℕ) (new t' output output' : List ℕ) → length claim ≡ 4 → length new ≡ 4
    → EditCall T t claim c n new 0 t' output output'
    → (k : ℕ) × (w : List ℕ) × (d : List ℕ) × Edited T t claim c n new t' d k w × (output' ≡ d)
call_edits T t claim c n new t' output output' four-claim four-new called =
    let e = (Called.edited T t claim c n new t' output output' four-claim four-new called).1 in
    let x = edits T t claim c n new e.0 four-claim four-new e.1 in
    (x.0, x.1, e.0, subst (λ s. Edited T t claim c n new s e.0 x.0 x.1) (sym e.2) x.2, e.3)

-- ---- the request
pub request_1 : Request1
request_1 = record {
  accepts_exactly = accepts_exactly;
  edits = edits;
  fifteen_exactly = fifteen_exactly;
  six_exactly = six_exactly;
  keeps = demand_1.edit_keeps;
  call_accepts_exactly = call_accepts_exactly;
  call_edits = call_edits;
  call_15 = call_15;
  call_6 = λ T t claim c n new t' output output' code i four-claim four-new called.
      call_6 T t claim c n new t' output output' code four-claim four-new called i;
}
