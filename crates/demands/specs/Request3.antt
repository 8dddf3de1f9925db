-- Request 3 (document 02, U3): all twelve cells from Hash. Hash returns the whole final state; chain, build and edit
-- take cells 0 to 3 from there, and row 31 of a batch shows all twelve.
-- Assumes nothing.
use Rattle.std.specs.Prelude.{◌≡◌, List, ◌++◌, ◌↔◌, ℕ, ◌+◌, ◌*◌, ◌-◌, ◌<◌, length, take, Result, Ok, Err}
use Rattle.field_words.specs.Words.{AllCanonical}
use Rattle.numbers.specs.Numbers.{width, batch_rows, tap_word_batches}
use Rattle.refusals.specs.Answers.{after, with_value}
use Rattle.refusals.specs.declared.Refusal.TheVariants.{DestinationLength}
use Rattle.table.specs.Table.{table_test}
use Rattle.hash.specs.Hash.{final_state, input, hash, tap, output_at}
use Rattle.hash.specs.Answers.{hash_answer}
use Rattle.hash_chain.specs.Answers.{chain_answer}
use Rattle.trace.specs.Trace.{row}
use Rattle.trace.specs.Answers.{build_answer, build_leaves}
use Rattle.check_exact.specs.Exact.{IsListFor}
use Rattle.trace_rewrite.specs.Edit.{altered}
use Rattle.trace_edit.specs.Answers.{edit_answer, edit_leaves}
use Rattle.call_answers.specs.Calls.{hash_call}
use Rattle.refusals.specs.declared.Refusal.{Refusal}

-- what is promised of the state s that Hash returns for the taps a and b
pub record Hashed (T a b s : List ℕ) : Type 0 where
  -- it is Algorithm 1's final state, in all twelve cells, which are words below p
  pub cells_are : s ≡ final_state T (input a b)
  pub canonical : AllCanonical s
  -- its cells 0 to 3 are the documentation's hash
  pub first_four : take 4 s ≡ hash T a b

-- what Hash answers for the inputs of hash h of the list w: the last output and the next tap
abbrev pub hash_of : List ℕ → List ℕ → ℕ → Result (List ℕ) Refusal
hash_of T w h = hash_answer T (output_at T w h ++ tap w (h + 1))

-- it returns these twelve cells
abbrev pub HasState : List ℕ → List ℕ → ℕ → List ℕ → Type 0
HasState T w h cells = (s : List ℕ) × (hash_of T w h ≡ Ok s) × (s ≡ cells)

-- it returns a state whose cells 0 to 3 are these four
abbrev pub HasOutput : List ℕ → List ℕ → ℕ → List ℕ → Type 0
HasOutput T w h output = (s : List ℕ) × (hash_of T w h ≡ Ok s) × (take 4 s ≡ output)

-- what is promised of the trace t of a list w of k batches, and of the output d of c of them that is returned with it
pub record Ends (T w : List ℕ) (c k : ℕ) (t d : List ℕ) : Type 0 where
  -- row 31 of each batch is the final state of its third hash, in all twelve cells: so the last row is that of the last
  -- hash
  pub rows_31 : (b : ℕ) → b < k → HasState T w (3 * b + 2) (row t (batch_rows * b + 31))
  -- the output is cells 0 to 3 of the final state of the last hash of the c batches
  pub output_is : HasOutput T w (3 * c - 1) d

pub record Request3 : Type 0 where
  -- Hash accepts exactly when the table is accepted and the words are below p
  pub accepts_exactly : (T words : List ℕ)
      → ((s : List ℕ) × (hash_answer T words ≡ Ok s)) ↔ ((table_test T ≡ Ok tt) × AllCanonical words)
  -- what it returns for two taps
  pub hashes : (T a b s : List ℕ) → length a ≡ 4 → length b ≡ 4 → hash_answer T (a ++ b) ≡ Ok s
      → Hashed T a b s
  -- from another language it is the same with room for twelve words, and with another length the table's refusal, or 8
  pub call_with_room : (T words : List ℕ) → hash_call T words width ≡ hash_answer T words
  pub call_without : (T words : List ℕ) (size : ℕ) (s : List ℕ) → (size ≡ width → ⊥)
      → hash_call T words size ≡ with_value (after (table_test T) (Err DestinationLength)) s
  -- a chain takes cells 0 to 3 of each of its hashes on to the next, and returns those of the last
  pub chains : (T w d : List ℕ) → chain_answer T w ≡ Ok d
      → (h : ℕ) → h < 3 * tap_word_batches (length w) → HasOutput T w h (output_at T w (h + 1))
  pub chain_output : (T w d : List ℕ) → chain_answer T w ≡ Ok d
      → HasOutput T w (3 * tap_word_batches (length w) - 1) d
  -- Build and Edit take the output from there, and their traces show the final states; an edited trace those of the
  -- altered list
  pub builds : (T w old d : List ℕ) → build_answer T w (length old) ≡ Ok d
      → let k = tap_word_batches (length w) in Ends T w k k (build_leaves T w old) d
  pub edits : (T t claim : List ℕ) (c n : ℕ) (new d : List ℕ) → length claim ≡ 4 → length new ≡ 4
      → edit_answer T t claim c n new ≡ Ok d
      → (k : ℕ) × (w : List ℕ) × IsListFor T t claim c k w
      × Ends T (altered w n new) c k (edit_leaves T t claim c n new) d
