-- Request 5 (document 02, U5): from a final state back to two taps. Unhash answers the one pair of taps whose Hash ends
-- in that state, in all twelve cells, and 16 exactly when there is none. Row 31, which depots archive, gives back the
-- output before a batch's last tap, and that tap.
-- Assumes nothing.
use Rattle.std.specs.Prelude.{◌≡◌, List, ◌++◌, ◌↔◌, ◌⊎◌, ℕ, ◌+◌, ◌*◌, ◌-◌, ◌≤◌, ◌<◌, length, Ok, Err}
use Rattle.lists.specs.Lists.{cell}
use Rattle.field.specs.Field.{P}
use Rattle.field_words.specs.Words.{CanonicalTo, AllCanonical}
use Rattle.numbers.specs.Numbers.{width, batch_rows, trace_row_count, tap_word_batches}
use Rattle.refusals.specs.Answers.{after}
use Rattle.refusals.specs.declared.Refusal.{Refusal}
use Rattle.refusals.specs.declared.Refusal.TheVariants.{TapWord, DestinationLength, NoPair}
use Rattle.table.specs.Table.{table_test}
use Rattle.hash.specs.Hash.{final_state, tap, output_at}
use Rattle.hash.specs.Answers.{hash_answer}
use Rattle.trace.specs.Trace.{row}
use Rattle.trace.specs.Answers.{build_answer, build_leaves}
use Rattle.check_trace.specs.Answers.{check_answer}
use Rattle.check_exact.specs.Exact.{IsListFor}
use Rattle.hash_undo.specs.Answers.{unhash_answer}
use Rattle.call_results.specs.Code.{refusal_code, answer_code}
use Rattle.call_answers.specs.Calls.{UnhashCall}

-- Hash of these eight words, two taps, ends in the state s, in all twelve cells: so it accepts them, and the taps are
-- canonical
abbrev pub EndsIn : List ℕ → List ℕ → List ℕ → Type 0
EndsIn T words s = hash_answer T words ≡ Ok s

-- what row 31 gives back of the list w, from its trace t of k batches
pub record GivesBack (T w : List ℕ) (k : ℕ) (t : List ℕ) : Type 0 where
  -- of batch b: the chain's output before the last of its taps, and that tap
  pub rows_31 : (b : ℕ) → b < k
      → unhash_answer T (row t (batch_rows * b + 31)) ≡ Ok (output_at T w (3 * b + 2) ++ tap w (3 * b + 3))
  -- so of the last row: the chain's output before the last tap, and the last tap
  pub last_row_is : unhash_answer T (row t (trace_row_count k - 1)) ≡ Ok (output_at T w (3 * k - 1) ++ tap w (3 * k))

pub record Request5 : Type 0 where
  -- for every table, twelve cells and eight words: Unhash answers this pair exactly when Hash of it ends in that state
  pub exactly : (T s words : List ℕ) → length s ≡ width → length words ≡ 8
      → (unhash_answer T s ≡ Ok words) ↔ EndsIn T words s
  -- no other pair does
  pub one_pair : (T s words others : List ℕ) → length s ≡ width → length words ≡ 8 → length others ≡ 8
      → EndsIn T words s → EndsIn T others s → words ≡ others
  -- 16 exactly when none does, with an accepted table and canonical cells
  pub sixteen_exactly : (T s : List ℕ) → length s ≡ width
      → (unhash_answer T s ≡ Err NoPair)
      ↔ ((table_test T ≡ Ok tt) × AllCanonical s
      × ((words : List ℕ) → length words ≡ 8 → EndsIn T words s → ⊥))
  -- there are such states: the final states of inputs that do not end in four zeros
  pub other_inputs : (T x : List ℕ) (j : ℕ) → table_test T ≡ Ok tt → length x ≡ width → AllCanonical x → j < 4
      → (cell x (8 + j) ≡ 0 → ⊥) → unhash_answer T (final_state T x) ≡ Err NoPair
  -- an accepted table and canonical cells get a pair or 16
  pub answers : (T s : List ℕ) → length s ≡ width → table_test T ≡ Ok tt → AllCanonical s
      → ((p : List ℕ) × (unhash_answer T s ≡ Ok p)) ⊎ (unhash_answer T s ≡ Err NoPair)
  -- before both comes the table's refusal, and then 6, which names the lowest cell that is not below p
  pub table_first : (T s : List ℕ) (r : Refusal) → table_test T ≡ Err r → unhash_answer T s ≡ Err r
  pub six_exactly : (T s : List ℕ) (i : ℕ) → length s ≡ width
      → (unhash_answer T s ≡ Err (TapWord i))
      ↔ ((table_test T ≡ Ok tt) × (i < width) × (P ≤ cell s i) × CanonicalTo i s)
  -- Unhash of a hash gives the taps, and Hash of an answer gives the cells
  pub unhash_of_hash : (T words s : List ℕ) → length words ≡ 8 → hash_answer T words ≡ Ok s
      → unhash_answer T s ≡ Ok words
  pub hash_of_unhash : (T s p : List ℕ) → length s ≡ width → unhash_answer T s ≡ Ok p
      → hash_answer T p ≡ Ok s
  -- from another language, `old` being what is lent for the pair and `new` what it holds afterwards: the call is
  -- accepted exactly when there is room for eight words and Hash of those that are there then ends in that state
  pub call_exactly : (T s old new : List ℕ) (code : ℕ) → length s ≡ width → UnhashCall T s code old new
      → (code ≡ 0) ↔ ((length old ≡ 8) × EndsIn T new s)
  -- with room it refuses what Unhash refuses, with another length with the table's refusal, or 8; nothing is written
  pub call_refuses : (T s old new : List ℕ) (code : ℕ) (r : Refusal) → UnhashCall T s code old new → length old ≡ 8
      → unhash_answer T s ≡ Err r → (code ≡ refusal_code r) × (new ≡ old)
  pub call_without : (T s old new : List ℕ) (code : ℕ) → UnhashCall T s code old new → (length old ≡ 8 → ⊥)
      → (code ≡ answer_code (after (table_test T) (Err DestinationLength))) × (new ≡ old)
  -- row 31 of a trace that Build wrote, and of one that Check accepted
  pub builds : (T w old d : List ℕ) → build_answer T w (length old) ≡ Ok d
      → GivesBack T w (tap_word_batches (length w)) (build_leaves T w old)
  pub checks : (T t claim : List ℕ) (c n : ℕ) → length claim ≡ 4 → check_answer T t claim c ≡ Ok n
      → (k : ℕ) × (w : List ℕ) × IsListFor T t claim c k w × GivesBack T w k t
