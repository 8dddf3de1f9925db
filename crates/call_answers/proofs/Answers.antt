-- How the calls answer: four, eight or twelve words handed over, a refusal passed on, a destination of another length.
-- Assumes nothing.
use mathlib.Core.Path.{◌≡◌, refl, sym, ap, ◌∙◌}
use mathlib.Core.Bool.{Bool, true, false}
use mathlib.Core.List.{List, [], ◌∷◌, ◌++◌}
use Prim.Native.Nat.{ℕ, ◌+◌, ◌*◌}
use native.Mathlib.Omega.{arith}
use borrow.Author.Tests.{eq-eqb, ne_eqb}
use lib.Dec.{leb}
use lib.ListN.{length, take, drop}
use Rattle.std.specs.Prelude.{Ok, Err}
use Rattle.numbers.specs.Numbers.{most_batches, is_tap_length, tap_word_batches, trace_word_batches}
use Rattle.refusals.specs.Answers.{Answer, unless, after, with_value, leaves}
use Rattle.refusals.specs.declared.Refusal.{Refusal}
use Rattle.refusals.specs.declared.Refusal.TheVariants.{TapLength, DestinationLength, NoSuchTap}
use Rattle.refusals.proofs.Laws.{IsRefusal, value_accepted, value_refused, leaves_old, leaves_new}
use Rattle.table.specs.Table.{table_test}
use Rattle.hash.specs.Hash.{final_state, input, chain, first_taps}
use Rattle.hash.specs.Answers.{hash_test, hash_answer}
use Rattle.hash_chain.specs.Answers.{chain_test, chain_answer}
use Rattle.trace.specs.Trace.{trace}
use Rattle.trace.specs.Answers.{build_test, build_answer, build_leaves}
use Rattle.check_trace.specs.Answers.{opening_test}
use Rattle.trace_edit.specs.Answers.{edit_test, altered_taps, edit_answer, edit_leaves}
use Rattle.hash_undo.specs.Unhash.{taps_before}
use Rattle.hash_undo.specs.Answers.{unhash_test, unhash_answer}
use Rattle.hash_undo.proofs.Theorems.{taps_size}
use Rattle.board.specs.Board.{batches_in, claim_in, taps_in, unpack_test, unpack_answer, unpack_leaves}
use Rattle.board.proofs.Answers.{unpack_accepted}
use Rattle.board_short.specs.ShortBoard.{short_claim_in, short_taps_in, unpack_short_test, unpack_short_answer}
use Rattle.board_short.specs.ShortBoard.{unpack_short_leaves, short_batches_in}
use Rattle.board_short.proofs.Answers as short
use Rattle.call_results.specs.Code.{refusal_code, answer_code, words_code}
use Rattle.call_results.specs.HandsOver.{HandsOver}
use Rattle.call_results.proofs.Handed.{answer_refused, words_refused, handed_refused, value_code, value_written}
use Rattle.call_answers.specs.Calls.{hash_call_test, hash_no_room, hash_call, chain_call_test}
use Rattle.call_answers.specs.Calls.{chain_no_room, chain_call, build_call_test, build_call, edit_call_test}
use Rattle.call_answers.specs.Calls.{edit_no_room}
use Rattle.call_answers.specs.Calls.{edit_call, unhash_call_test, UnhashCall, unpack_call_test, unpack_call}
use Rattle.call_answers.specs.Calls.{unpack_short_call_test, unpack_short_call}

-- ---- tests t that can only refuse, as those of a call have become where its words find no room
module _ (t called : Answer) (same : called ≡ t) (refuses : IsRefusal t) where
  pub stopped : (d : List ℕ) (code : ℕ) (old : List ℕ) → code ≡ answer_code t
      → HandsOver (with_value called d) code old old
  stopped d code old e =
      handed_refused (with_value called d) refuses.0 code old
      (ap (λ a. with_value a d) (same ∙ refuses.1))
      (e ∙ sym (answer_refused t refuses.0 refuses.1))

  digest_stopped : (d : List ℕ) (code : ℕ) (old : List ℕ) → code ≡ words_code (with_value t d)
      → HandsOver (with_value called d) code old old
  digest_stopped d code old e =
      handed_refused (with_value called d) refuses.0 code old
      (ap (λ a. with_value a d) (same ∙ refuses.1))
      (e ∙ sym (words_refused (with_value t d) refuses.0 (ap (λ a. with_value a d) refuses.1)))

  pub kept : {A : Type 0} (new old : A) → old ≡ leaves called new old
  kept new old = sym (ap (λ a. leaves a new old) (same ∙ refuses.1))

-- ---- the calls' tests, by the length of that destination
module _ (T words : List ℕ) (size : ℕ) where
  pub hash_room : size ≡ 12 → hash_test T words ≡ hash_call_test T words size
  unfolding hash_test hash_call_test
  hash_room e = rw (eq-eqb size 12 e)

  pub hash_without : (size ≡ 12 → ⊥) → hash_call_test T words size ≡ hash_no_room T
  unfolding hash_call_test hash_no_room
  hash_without e = rw (ne_eqb size 12 e)

module _ (T s : List ℕ) (size : ℕ) where
  pub unhash_room : size ≡ 8 → unhash_test T s ≡ unhash_call_test T s size
  unfolding unhash_test unhash_call_test
  unhash_room e = rw (eq-eqb size 8 e)

  pub unhash_without : (size ≡ 8 → ⊥) → unhash_call_test T s size ≡ hash_no_room T
  unfolding unhash_call_test hash_no_room
  unhash_without e = rw (ne_eqb size 8 e)

module _ (T w : List ℕ) (size : ℕ) where
  pub chain_room : size ≡ 4 → chain_test T w ≡ chain_call_test T w size
  unfolding chain_test chain_call_test
  chain_room e = rw (eq-eqb size 4 e)

  pub chain_without : (size ≡ 4 → ⊥) → chain_call_test T w size ≡ chain_no_room T w
  unfolding chain_call_test chain_no_room
  chain_without e = rw (ne_eqb size 4 e)

  pub build_room : (rows : ℕ) → size ≡ 4 → build_test T w rows ≡ build_call_test T w rows size
  unfolding build_test build_call_test
  build_room rows e = rw (eq-eqb size 4 e)

  pub build_without : (rows : ℕ) → (size ≡ 4 → ⊥) → build_call_test T w rows size ≡ chain_no_room T w
  unfolding build_call_test chain_no_room
  build_without rows e = rw (ne_eqb size 4 e)

module _ (T t claim : List ℕ) (c n : ℕ) (new : List ℕ) (size : ℕ) where
  pub edit_room : size ≡ 4 → edit_test T t claim c n new ≡ edit_call_test T t claim c n new size
  unfolding edit_test edit_call_test
  edit_room e = rw (eq-eqb size 4 e)

  pub edit_without : (size ≡ 4 → ⊥) → edit_call_test T t claim c n new size ≡ edit_no_room T t c n
  unfolding edit_call_test edit_no_room
  edit_without e = rw (ne_eqb size 4 e)

pub hash_no_room_refuses : (T : List ℕ) → IsRefusal (hash_no_room T)
unfolding hash_no_room
hash_no_room_refuses T = go (table_test T)
  where
    go : (t : Answer) → IsRefusal (after t (Err DestinationLength))
    go (Err r) = (r, refl)
    go (Ok _) = (DestinationLength, refl)

pub chain_no_room_refuses : (T w : List ℕ) → IsRefusal (chain_no_room T w)
unfolding chain_no_room
chain_no_room_refuses T w = go (table_test T) (is_tap_length most_batches (length w))
  where
    go : (t : Answer) (b : Bool) → IsRefusal (after t (unless b TapLength (Err DestinationLength)))
    go (Err r) b = (r, refl)
    go (Ok _) true = (DestinationLength, refl)
    go (Ok _) false = (TapLength, refl)

pub edit_no_room_refuses : (T t : List ℕ) (c n : ℕ) → IsRefusal (edit_no_room T t c n)
unfolding edit_no_room
edit_no_room_refuses T t c n = go (opening_test T t c) (leb n (3 * trace_word_batches (length t)))
  where
    go : (a : Answer) (b : Bool) → IsRefusal (after a (unless b NoSuchTap (Err DestinationLength)))
    go (Err r) b = (r, refl)
    go (Ok _) true = (DestinationLength, refl)
    go (Ok _) false = (NoSuchTap, refl)

module _ (file : List ℕ) (taps size : ℕ) where
  pub unpack_room : size ≡ 4 → unpack_test file taps ≡ unpack_call_test file taps size
  unfolding unpack_test unpack_call_test
  unpack_room e = rw (eq-eqb size 4 e)

  pub unpack_without : (size ≡ 4 → ⊥) → unpack_call_test file taps size ≡ unpack_test file 0
  unfolding unpack_test unpack_call_test
  unpack_without e = rw (ne_eqb size 4 e, ne_eqb 0 (12 * batches_in file + 4) (λ q. omega arith))

-- the same of the short edition
module _ (file : List ℕ) (taps size : ℕ) where
  pub unpack_short_room : size ≡ 4 → unpack_short_test file taps ≡ unpack_short_call_test file taps size
  unfolding unpack_short_test unpack_short_call_test
  unpack_short_room e = rw (eq-eqb size 4 e)

  pub unpack_short_without : (size ≡ 4 → ⊥) → unpack_short_call_test file taps size ≡ unpack_short_test file 0
  unfolding unpack_short_test unpack_short_call_test
  unpack_short_without e = rw (ne_eqb size 4 e, ne_eqb 0 (12 * short_batches_in file + 4) (λ q. omega arith))

-- no list of taps has 0 words
no_list : (t : Answer) (k : ℕ) → (t ≡ Ok tt → 0 ≡ 12 * k + 4) → IsRefusal t
no_list (Err r) k e = (r, refl)
no_list (Ok _) k e = absurd (omega (arith, e refl))

pub no_list_refuses : (file : List ℕ) → IsRefusal (unpack_test file 0)
no_list_refuses file = no_list (unpack_test file 0) (batches_in file) (λ e. (unpack_accepted file 0 e).1)

pub no_short_list_refuses : (file : List ℕ) → IsRefusal (unpack_short_test file 0)
no_short_list_refuses file =
    no_list (unpack_short_test file 0) (short_batches_in file) (λ e. (short.unpack_accepted file 0 e).1)

-- so that the answer for such a destination is the one that stops at 8
module _ (file : List ℕ) (taps size : ℕ) (without : size ≡ 4 → ⊥) where
  pub unpack_stopped : (code : ℕ) (old : List ℕ) → code ≡ words_code (unpack_answer file 0)
      → HandsOver (unpack_call file taps size) code old old
  unfolding unpack_answer unpack_call
  unpack_stopped code old e =
      digest_stopped (unpack_test file 0) (unpack_call_test file taps size) (unpack_without file taps size without)
      (no_list_refuses file) (claim_in file) code old e

  pub unpack_short_stopped : (code : ℕ) (old : List ℕ) → code ≡ words_code (unpack_short_answer file 0)
      → HandsOver (unpack_short_call file taps size) code old old
  unfolding unpack_short_answer unpack_short_call
  unpack_short_stopped code old e =
      digest_stopped (unpack_short_test file 0) (unpack_short_call_test file taps size)
      (unpack_short_without file taps size without) (no_short_list_refuses file) (short_claim_in file) code old e

-- where there is room, answer and content are the operation's
pub hash_answer_lem : (size : ℕ) → size ≡ 12 → (T words : List ℕ) → hash_answer T words ≡ hash_call T words size
unfolding hash_answer hash_call
hash_answer_lem size e T words =
    ap (λ t. with_value t (final_state T (input (take 4 words) (drop 4 words)))) (hash_room T words size e)

module _ (size : ℕ) (four : size ≡ 4) where
  pub chain_answer_lem : (T w : List ℕ) → chain_answer T w ≡ chain_call T w size
  unfolding chain_answer chain_call
  chain_answer_lem T w =
      ap (λ t. with_value t (chain T w (tap_word_batches (length w)))) (chain_room T w size four)

  pub build_answer_lem : (T w : List ℕ) (rows : ℕ) → build_answer T w rows ≡ build_call T w rows size
  unfolding build_answer build_call
  build_answer_lem T w rows =
      ap (λ t. with_value t (chain T w (tap_word_batches (length w)))) (build_room T w size rows four)

  pub build_left : (T w old : List ℕ) → build_leaves T w old
      ≡ leaves (build_call_test T w (length old) size) (trace T w (tap_word_batches (length w))) old
  unfolding build_leaves
  build_left T w old =
      ap (λ t. leaves t (trace T w (tap_word_batches (length w))) old) (build_room T w size (length old) four)

  pub edit_answer_lem : (T t claim : List ℕ) (c n : ℕ) (new : List ℕ)
      → edit_answer T t claim c n new ≡ edit_call T t claim c n new size
  unfolding edit_answer edit_call
  edit_answer_lem T t claim c n new =
      ap (λ a. with_value a (chain T (first_taps c (altered_taps T t n new)) c))
      (edit_room T t claim c n new size four)

  pub edit_left : (T t claim : List ℕ) (c n : ℕ) (new : List ℕ) → edit_leaves T t claim c n new
      ≡ leaves (edit_call_test T t claim c n new size) (trace T (altered_taps T t n new) (trace_word_batches (length t))) t
  unfolding edit_leaves
  edit_left T t claim c n new =
      ap (λ a. leaves a (trace T (altered_taps T t n new) (trace_word_batches (length t))) t)
      (edit_room T t claim c n new size four)

  pub unpack_answer_lem : (file : List ℕ) (taps : ℕ) → unpack_answer file taps ≡ unpack_call file taps size
  unfolding unpack_answer unpack_call
  unpack_answer_lem file taps = ap (λ t. with_value t (claim_in file)) (unpack_room file taps size four)

  pub unpack_left : (file old : List ℕ)
      → unpack_leaves file old ≡ leaves (unpack_call_test file (length old) size) (taps_in file) old
  unfolding unpack_leaves
  unpack_left file old = ap (λ t. leaves t (taps_in file) old) (unpack_room file (length old) size four)

  pub unpack_short_answer_lem : (file : List ℕ) (taps : ℕ) → unpack_short_answer file taps ≡ unpack_short_call file taps size
  unfolding unpack_short_answer unpack_short_call
  unpack_short_answer_lem file taps =
      ap (λ t. with_value t (short_claim_in file)) (unpack_short_room file taps size four)

  pub unpack_short_left : (file old : List ℕ)
      → unpack_short_leaves file old ≡ leaves (unpack_short_call_test file (length old) size) (short_taps_in file) old
  unfolding unpack_short_leaves
  unpack_short_left file old =
      ap (λ t. leaves t (short_taps_in file) old) (unpack_short_room file (length old) size four)

-- where no word of a destination was lent
pub list_kept : (part old : List ℕ) → length part ≡ 0 → part ++ old ≡ old
list_kept [] old h = refl
list_kept (x ∷ part) old h = absurd (omega arith)

-- ---- Unhash, with room for its eight words
module _ (T s old : List ℕ) (room : length old ≡ 8) where
  pub unhash_handed : (code : ℕ) (new : List ℕ) → HandsOver (unhash_answer T s) code old new → UnhashCall T s code old new
  unfolding unhash_answer
  unhash_handed code new h =
      let same = unhash_room T s (length old) room in
      record {
        coded = h.coded ∙ value_code (unhash_test T s) _ ∙ ap answer_code same;
        taps = h.output ∙ value_written (unhash_test T s) _ old ∙ ap (λ t. leaves t (taps_before T s) old) same;
      }

-- and without
pub unhash_stopped : (T s old : List ℕ) (code : ℕ) → (length old ≡ 8 → ⊥) → code ≡ answer_code (hash_no_room T)
    → UnhashCall T s code old old
unhash_stopped T s old code without e =
    let same = unhash_without T s (length old) without in
    record {
      coded = e ∙ sym (ap answer_code same);
      taps = kept (hash_no_room T) _ same (hash_no_room_refuses T) (taps_before T s) old;
    }
