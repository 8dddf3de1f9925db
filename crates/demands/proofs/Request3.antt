-- Request 3: Hash returns the whole final state. From demand 2's hashes, the outputs along a chain, and the last row of
-- a batch (crate `check_exact`, proofs/Built.antt); for an edit from request 1.
-- Assumes nothing.
use mathlib.Core.Path.{◌≡◌, refl, sym, ap, ap₂, ◌∙◌, subst}
use mathlib.Core.List.{List, ◌++◌}
use mathlib.Core.Logic.{◌↔◌}
use Prim.Native.Nat.{ℕ, ◌+◌, ◌*◌, ◌-◌, ◌≤◌, ◌<◌}
use native.Mathlib.Omega.{arith}
use lib.ListN.{length, take, drop}
use lib.Seq.{take_at, drop_at}
use Rattle.std.specs.Prelude.{Ok, Err}
use Rattle.field_words.specs.Words.{AllCanonical}
use Rattle.numbers.specs.Numbers.{IsPermitted, tap_word_batches}
use Rattle.refusals.specs.Answers.{Answer, after, with_value}
use Rattle.refusals.specs.declared.Refusal.TheVariants.{DestinationLength}
use Rattle.refusals.proofs.Laws.{value_accepted}
use Rattle.table.specs.Table.{table_test, IsTable}
use Rattle.table.proofs.Theorems.{test_sound, test_complete}
use Rattle.hash.specs.Hash.{final_state, input, hash, tap, output_at, chain}
use Rattle.hash.specs.Answers.{hash_test, hash_answer}
use Rattle.hash.proofs.States.{final_state_state}
use Rattle.hash.proofs.Answers.{hash_inputs, hash_passes}
use Rattle.hash_chain.specs.Answers.{chain_test, chain_answer}
use Rattle.hash_chain.proofs.FirstTaps.{chain_first}
use Rattle.hash_chain.proofs.Answers.{chain_inputs}
use Rattle.trace.specs.Trace.{hash_input, trace, row}
use Rattle.trace.specs.Answers.{build_test, build_answer, build_leaves}
use Rattle.trace.proofs.Answers.{build_inputs}
use Rattle.trace.proofs.TraceCells.{next_output, output_is_tap, next_tap_is_tap}
use Rattle.trace.proofs.Theorems.{build_leaves_lem}
use Rattle.check_exact.specs.Exact.{IsListFor}
use Rattle.check_exact.proofs.Built.{end_row}
use Rattle.trace_rewrite.specs.Edit.{altered}
use Rattle.trace_edit.specs.Answers.{edit_answer, edit_leaves}
use Rattle.call_answers.specs.Calls.{hash_no_room, hash_call}
use Rattle.call_answers.proofs.Answers.{hash_without, hash_answer_lem}
use Rattle.demands.specs.Request3.{Hashed, HasState, HasOutput, Ends, Request3}
use Rattle.demands.proofs.Demand2.{demand_2}
use Rattle.demands.proofs.Request1.{request_1}

-- ---- Hash by itself

-- what it returns for eight words
abbrev returned : List ℕ → List ℕ → List ℕ
returned T words = final_state T (input (take 4 words) (drop 4 words))

accepts_exactly : (T words : List ℕ)
    → ((s : List ℕ) × (hash_answer T words ≡ Ok s)) ↔ ((table_test T ≡ Ok tt) × AllCanonical words)
unfolding hash_answer
accepts_exactly T words = (
  λ a.
      let i = hash_inputs T words (value_accepted (hash_test T words) _ a.0 a.1).0 in
      (test_complete T i.table, i.canonical),
  λ h.
      let passes = hash_passes T words (record { table = test_sound T h.0; canonical = h.1 }) in
      (returned T words, ap (λ t. with_value t (returned T words)) passes),
)

hashes : (T a b s : List ℕ) → length a ≡ 4 → length b ≡ 4 → hash_answer T (a ++ b) ≡ Ok s
    → Hashed T a b s
unfolding hash_answer hash
hashes T a b s la lb e =
    let last = final_state_state T (input a b) in
    let cells : s ≡ final_state T (input a b) =
    sym ((value_accepted (hash_test T (a ++ b)) _ s e).1)
    ∙ ap₂ (λ x y. final_state T (input x y)) (take_at a b 4 la) (drop_at a b 4 la) in
    record {
      cells_are = cells;
      canonical = subst AllCanonical (sym cells) last.canonical;
      first_four = ap (take 4) cells;
    }

-- ---- its call from another language
call_without : (T words : List ℕ) (size : ℕ) (s : List ℕ) → (size ≡ 12 → ⊥)
    → hash_call T words size ≡ with_value (after (table_test T) (Err DestinationLength)) s
unfolding hash_call hash_no_room
call_without T words size s without =
    ap (λ t. with_value t (returned T words)) (hash_without T words size without) ∙ same (table_test T)
  where
    -- a refusal has no state
    same : (t : Answer) → let a = after t (Err DestinationLength) in
        with_value a (returned T words) ≡ with_value a s
    same (Ok _) = refl
    same (Err r) = refl

-- ---- the hashes of a list
module _ (T w : List ℕ) (k : ℕ) (table : IsTable T) (permitted : IsPermitted k) (size : length w ≡ 12 * k + 4)
    (canonical : AllCanonical w) where
  has_state : (h : ℕ) → h < 3 * k → HasState T w h (final_state T (hash_input T w h))
  unfolding hash_input
  has_state h l =
      let a = output_is_tap T w k size canonical h in
      let b = next_tap_is_tap T w k size canonical h l in
      let r =
      demand_2.hashes T (output_at T w h) (tap w (h + 1)) (test_complete T table) a.size a.canonical b.size
      b.canonical in
      (r.0, r.1, r.2)

  has_output : (h : ℕ) → h < 3 * k → HasOutput T w h (output_at T w (h + 1))
  has_output h l =
      let r = has_state h l in
      (r.0, r.1, ap (take 4) r.2 ∙ sym (next_output T w h))

  -- the output of c batches, as it is returned
  output_returned : (c : ℕ) (d : List ℕ) → 1 ≤ c → c ≤ k → (chain T w c) ≡ d
      → HasOutput T w (3 * c - 1) d
  unfolding chain
  output_returned c d low high e =
      let last : 3 * c - 1 + 1 ≡ 3 * c = omega arith in
      subst (HasOutput T w (3 * c - 1))
      (ap (output_at T w) last ∙ e)
      (has_output (3 * c - 1) (omega arith))

  ends : (c : ℕ) (t d : List ℕ) → 1 ≤ c → c ≤ k → t ≡ trace T w k → (chain T w c) ≡ d
      → Ends T w c k t d
  ends c t d low high e f = record {
    rows_31 = λ b l.
        let shown = ap (λ s. row s (32 * b + 31)) e ∙ end_row T w k table size canonical b l in
        subst (HasState T w (3 * b + 2)) (sym shown) (has_state (3 * b + 2) (omega arith));
    output_is = output_returned c d low high f;
  }

chains : (T w d : List ℕ) → chain_answer T w ≡ Ok d
    → (h : ℕ) → h < 3 * tap_word_batches (length w) → HasOutput T w h (output_at T w (h + 1))
unfolding chain_answer
chains T w d e =
    let i = chain_inputs T w (value_accepted (chain_test T w) _ d e).0 in
    has_output T w (tap_word_batches (length w)) i.table i.permitted i.size i.canonical

chain_output : (T w d : List ℕ) → chain_answer T w ≡ Ok d
    → HasOutput T w (3 * tap_word_batches (length w) - 1) d
unfolding chain_answer
chain_output T w d e =
    let a = value_accepted (chain_test T w) _ d e in
    let i = chain_inputs T w a.0 in
    let k = tap_word_batches (length w) in
    output_returned T w k i.table i.permitted i.size i.canonical k d i.permitted.low (omega arith)
    a.1

builds : (T w old d : List ℕ) → build_answer T w (length old) ≡ Ok d
    → let k = tap_word_batches (length w) in Ends T w k k (build_leaves T w old) d
unfolding build_answer
builds T w old d e =
    let k = tap_word_batches (length w) in
    let a = value_accepted (build_test T w (length old)) _ d e in
    let i = build_inputs T w (length old) a.0 in
    let left = build_leaves_lem T w k i.table i.permitted i.taps i.canonical old i.room in
    ends T w k i.table i.permitted i.taps i.canonical k (build_leaves T w old) d i.permitted.low
    (omega arith) left a.1

-- the trace of an edit is that of a build of the altered list
edits : (T t claim : List ℕ) (c n : ℕ) (new d : List ℕ) → length claim ≡ 4 → length new ≡ 4
    → edit_answer T t claim c n new ≡ Ok d
    → (k : ℕ) × (w : List ℕ) × IsListFor T t claim c k w
    × Ends T (altered w n new) c k (edit_leaves T t claim c n new) d
unfolding build_answer
edits T t claim c n new d four' four'' e =
    let r = request_1.edits T t claim c n new d four' four'' e in
    let k = r.0 in
    let w = r.1 in
    let x = r.2 in
    let v = altered w n new in
    let built = x.as_built t x.size in
    let i = build_inputs T v (length t) (value_accepted (build_test T v (length t)) _ _ built.0).0 in
    let batches : tap_word_batches (length v) ≡ k = omega (arith, i.room, x.size) in
    let taps : length v ≡ 12 * k + 4 = omega (arith, i.taps) in
    let output = (sym (chain_first T v c)) ∙ sym x.output_is in (
      k,
      w,
      x.stands_for,
      ends T v k i.table x.permitted taps i.canonical c _ d x.claimed.0 x.claimed.1 x.trace_is
          output,
    )

-- ---- the request
pub request_3 : Request3
request_3 = record {
  accepts_exactly = accepts_exactly;
  hashes = hashes;
  call_with_room = λ T words. sym (hash_answer_lem 12 refl T words);
  call_without = call_without;
  chains = chains;
  chain_output = chain_output;
  builds = builds;
  edits = edits;
}
