-- Unhash answers a pair exactly when Hash of that pair ends in that state, and 16 where none does.
-- Assumes nothing.
use mathlib.Core.Path.{◌≡◌, refl, sym, ap, ap₂, ◌∙◌, subst}
use mathlib.Core.Bool.{Bool, true, false}
use mathlib.Core.List.{List, ◌++◌}
use mathlib.Core.Logic.{◌⊎◌, inl, inr}
use Prim.Native.Nat.{ℕ, ◌+◌, ◌<◌}
use native.Mathlib.Omega.{arith}
use lib.ListN.{length, take, drop, replicate}
use lib.Seq.{get_or-take}
use Rattle.std.specs.Prelude.{Ok, Err}
use Rattle.lists.specs.Lists.{cell}
use Rattle.field_words.specs.Words.{AllCanonical}
use Rattle.refusals.specs.declared.Refusal.TheVariants.{NoPair}
use Rattle.refusals.specs.Answers.{unless, with_value}
use Rattle.refusals.proofs.Laws.{value_accepted, value_turned_back}
use Rattle.table.specs.Table.{IsTable}
use Rattle.hash.specs.Hash.{final_state, input}
use Rattle.hash.specs.Answers.{hash_test, hash_answer}
use Rattle.hash.proofs.States.{IsState, cell_lt, final_state_state}
use Rattle.hash.proofs.Answers.{hash_inputs, hash_passes}
use Rattle.hash.proofs.CodeInput.{two_taps_state}
use Rattle.hash_undo.specs.Unhash.{input_before, taps_before, ends_in_zeros}
use Rattle.hash_undo.specs.Answers.{unhash_test, unhash_answer}
use Rattle.hash_undo.proofs.Rounds.{input_before_state, input_back, final_back}
use Rattle.hash_undo.proofs.Taps.{input_of, input_zeros, input_first, first_eight, zero_at, zeros_input}
use Rattle.hash_undo.proofs.Answers.{unhash_inputs, unhash_left, unhash_passes}

pub taps_size : (T s : List ℕ) → length (taps_before T s) ≡ 8
unfolding taps_before
taps_size T s = first_eight (input_before T s) (input_before_state T s).size

module _ (T s : List ℕ) (twelve : length s ≡ 12) where
  -- ---- the taps whose input ends in zeros hash to s
  module _ (table : IsTable T) (canonical : AllCanonical s) (zeros : ends_in_zeros (input_before T s) ≡ true) where
    taps_input : input (take 4 (taps_before T s)) (drop 4 (taps_before T s)) ≡ input_before T s
    unfolding taps_before
    taps_input =
        input_of (take 8 (input_before T s)) ∙ sym (zeros_input (input_before T s) (input_before_state T s).size zeros)

    taps_canonical : AllCanonical (taps_before T s)
    unfolding taps_before
    taps_canonical j l =
        let x = input_before_state T s in
        omega (
          arith,
          get_or-take 8 (input_before T s) j 0 (omega (arith, taps_size T s)),
          cell_lt (input_before T s) x.canonical j,
        )

    taps_hash : hash_answer T (taps_before T s) ≡ Ok s
    unfolding hash_answer
    taps_hash =
        ap₂ with_value (hash_passes T (taps_before T s) (record { table = table; canonical = taps_canonical }))
        (ap (final_state T) taps_input
        ∙ final_back T table (record { size = twelve; canonical = canonical }))

  -- ---- exactly
  pub answered_hash : (w : List ℕ) → length w ≡ 8 → unhash_answer T s ≡ Ok w
      → hash_answer T w ≡ Ok s
  unfolding unhash_answer
  answered_hash w eight e =
      let a = value_accepted (unhash_test T s) _ w e in
      let i = unhash_inputs T s a.0 in
      subst (λ x. hash_answer T x ≡ Ok s) a.1 (taps_hash i.table i.canonical i.zeros)

  pub hash_answered : (w : List ℕ) → length w ≡ 8 → hash_answer T w ≡ Ok s
      → unhash_answer T s ≡ Ok w
  unfolding unhash_answer hash_answer taps_before
  hash_answered w eight e =
      let a = value_accepted (hash_test T w) _ s e in
      let i = hash_inputs T w a.0 in
      let f = final_state_state T (input (take 4 w) (drop 4 w)) in
      let same : s ≡ final_state T (input (take 4 w) (drop 4 w)) = sym a.1 in
      let before : input_before T s ≡ w ++ replicate 4 0 =
      ap (input_before T) same ∙ input_back T i.table (two_taps_state w eight i.canonical) ∙ input_of w in
      ap₂ with_value
      (unhash_passes T s (record {
        table = i.table;
        canonical = subst AllCanonical (sym same) f.canonical;
        zeros = ap ends_in_zeros before ∙ input_zeros w eight;
      }))
      (ap (take 8) before ∙ input_first w eight)

  -- ---- accepted table and canonical cells: a pair, or 16
  pub answered_or_16 : IsTable T → AllCanonical s
      → ((w : List ℕ) × (length w ≡ 8) × (hash_answer T w ≡ Ok s))
      ⊎ (unhash_answer T s ≡ Err NoPair)
  unfolding unhash_answer taps_before
  answered_or_16 table canonical = go (ends_in_zeros (input_before T s)) refl
    where
      go : (b : Bool) → ends_in_zeros (input_before T s) ≡ b
          → ((w : List ℕ) × (length w ≡ 8) × (hash_answer T w ≡ Ok s))
          ⊎ (with_value (unhash_test T s) (taps_before T s) ≡ Err NoPair)
      go true e =
          inl (taps_before T s, taps_size T s, taps_hash table canonical e)
      go false e =
          let refuses = unhash_left T s table canonical ∙ ap (λ b. unless b NoPair (Ok tt)) e in
          inr (sym (value_turned_back refl _ refuses))

-- ---- the final state of an input that does not end in zeros has no pair
pub other_input : (T x : List ℕ) (j : ℕ) → IsTable T → IsState x → j < 4 → (cell x (8 + j) ≡ 0 → ⊥)
    → unhash_answer T (final_state T x) ≡ Err NoPair
unfolding unhash_answer
other_input T x j table p h n =
    sym (value_turned_back refl _
    (unhash_left T (final_state T x) table (final_state_state T x).canonical
    ∙ ap (λ y. unless (ends_in_zeros y) NoPair (Ok tt)) (input_back T table p)
    ∙ go (ends_in_zeros x) refl))
  where
    go : (b : Bool) → ends_in_zeros x ≡ b → unless (ends_in_zeros x) NoPair (Ok tt) ≡ Err NoPair
    go true e = absurd (n (zero_at x p.size e j h))
    go false e = ap (λ b. unless b NoPair (Ok tt)) e
