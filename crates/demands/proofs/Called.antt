-- A call whose word is 0 had room for its four words, and answered, left and handed over what its operation does.
-- Assumes nothing.
use mathlib.Core.Path.{◌≡◌, sym, ap, ◌∙◌}
use mathlib.Core.List.{List}
use Prim.Native.Nat.{ℕ}
use native.Mathlib.Decide.{ℕ_discrete}
use lib.ListN.{length}
use Rattle.std.specs.Prelude.{Ok}
use Rattle.numbers.specs.Numbers.{tap_word_batches}
use Rattle.refusals.specs.Answers.{Answer, with_value}
use Rattle.refusals.proofs.Laws.{IsRefusal, not_accepted}
use Rattle.hash.specs.Hash.{chain, first_taps}
use Rattle.trace.specs.Answers.{build_answer, build_leaves}
use Rattle.trace_edit.specs.Answers.{altered_taps, edit_answer, edit_leaves}
use Rattle.board.specs.Board.{claim_in, unpack_test, unpack_answer, unpack_leaves}
use Rattle.call_results.specs.HandsOver.{written}
use Rattle.call_results.proofs.Bits.{zero_returns}
use Rattle.call_answers.specs.Calls.{chain_no_room, build_call_test, build_call, BuildCall, edit_no_room}
use Rattle.call_answers.specs.Calls.{edit_call_test, edit_call}
use Rattle.call_answers.specs.Calls.{EditCall, unpack_call_test, unpack_call, UnpackCall}
use Rattle.call_answers.proofs.Answers.{chain_no_room_refuses, build_without, build_answer_lem, build_left}
use Rattle.call_answers.proofs.Answers.{edit_no_room_refuses, edit_without, edit_answer_lem, edit_left}
use Rattle.call_answers.proofs.Answers.{no_list_refuses, unpack_without, unpack_answer_lem, unpack_left}
use Rattle.call_answers.proofs.Theorems as bits

-- without room the tests can only refuse
pub had_room : (size : ℕ) (tests none : Answer) → ((size ≡ 4 → ⊥) → tests ≡ none) → IsRefusal none
    → tests ≡ Ok tt → size ≡ 4
had_room size tests none without refuses e = go (ℕ_discrete size 4)
  where
    go : Dec (size ≡ 4) → size ≡ 4
    go (yes four) = four
    go (no other) = absurd (not_accepted refuses.0 (sym (without other ∙ refuses.1) ∙ e))

pub built : (T w rows rows' output output' : List ℕ) → BuildCall T w 0 rows rows' output output'
    → (d : List ℕ) × (build_answer T w (length rows) ≡ Ok d) × (rows' ≡ build_leaves T w rows)
    × (output' ≡ d)
unfolding build_call
built T w rows rows' output output' called =
    let size = length output in
    let tests = build_call_test T w (length rows) size in
    let d = (chain T w (tap_word_batches (length w))) in
    let passes = zero_returns tests d (bits.build_bits T w (length rows) size) (sym called.four.coded) in
    let four = had_room size tests (chain_no_room T w) (build_without T w size (length rows))
    (chain_no_room_refuses T w) passes in (
      d,
      build_answer_lem size four T w (length rows) ∙ ap (λ a. with_value a d) passes,
      called.rows ∙ sym (build_left size four T w rows),
      called.four.output ∙ ap (λ a. written (with_value a d) output) passes,
    )

pub edited : (T t claim : List ℕ) (c n : ℕ) (new t' output output' : List ℕ) → length claim ≡ 4 → length new ≡ 4
    → EditCall T t claim c n new 0 t' output output'
    → (length output ≡ 4) × ((d : List ℕ) × (edit_answer T t claim c n new ≡ Ok d)
    × (t' ≡ edit_leaves T t claim c n new) × (output' ≡ d))
unfolding edit_call
edited T t claim c n new t' output output' four-claim four-new called =
    let size = length output in
    let tests = edit_call_test T t claim c n new size in
    let d = (chain T (first_taps c (altered_taps T t n new)) c) in
    let passes = zero_returns tests d (bits.edit_bits T t claim c four-claim n new size four-new)
    (sym called.four.coded) in
    let four = had_room size tests (edit_no_room T t c n) (edit_without T t claim c n new size)
    (edit_no_room_refuses T t c n) passes in (
      four,
      (
        d,
        edit_answer_lem size four T t claim c n new ∙ ap (λ a. with_value a d) passes,
        called.rows ∙ sym (edit_left size four T t claim c n new),
        called.four.output ∙ ap (λ a. written (with_value a d) output) passes,
      ),
    )

pub unpacked : (file taps taps' claim claim' : List ℕ) → UnpackCall file 0 taps taps' claim claim'
    → (d : List ℕ) × (unpack_answer file (length taps) ≡ Ok d) × (taps' ≡ unpack_leaves file taps)
    × (claim' ≡ d)
unfolding unpack_call
unpacked file taps taps' claim claim' called =
    let size = length claim in
    let tests = unpack_call_test file (length taps) size in
    let d = (claim_in file) in
    let passes = zero_returns tests d (bits.unpack_bits file (length taps) size) (sym called.four.coded) in
    let four = had_room size tests (unpack_test file 0) (unpack_without file (length taps) size) (no_list_refuses file)
    passes in (
      d,
      unpack_answer_lem size four file (length taps) ∙ ap (λ a. with_value a d) passes,
      called.list ∙ sym (unpack_left size four file taps),
      called.four.output ∙ ap (λ a. written (with_value a d) claim) passes,
    )
