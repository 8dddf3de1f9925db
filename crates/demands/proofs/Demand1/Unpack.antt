-- Demand 1 of Unpack.
-- Assumes nothing.
use mathlib.Core.Path.{◌≡◌, refl, sym, ap, subst, ◌∙◌}
use mathlib.Core.List.{List}
use Prim.Native.Nat.{ℕ}
use lib.ListN.{length}
use Rattle.std.specs.Prelude.{Ok, Err}
use Rattle.refusals.specs.Answers.{leaves}
use Rattle.refusals.specs.declared.Refusal.{Refusal}
use Rattle.refusals.proofs.Laws.{value_accepted, value_refused, AnswerEnds}
use Rattle.board_words.proofs.Round.{length_elements}
use Rattle.board.specs.Board.{unpack_answer, unpack_test, taps_in, claim_in, unpack_leaves}
use Rattle.call_answers.specs.Calls.{unpack_call_test, unpack_call, UnpackCall}
use Rattle.call_answers.proofs.Theorems as bits
use Rattle.demands.specs.Demand1.{unpack, numbers, call_numbers, OneOf, Answered, UnpackResult}
use Rattle.demands.proofs.Demand1.Numbers.{one_of, full_causes}
use Rattle.demands.proofs.Demand1.Words.{digest_says, output_new, output_old, kept_old}
use Rattle.call_answers.proofs.Endings.Unpack.{unpack_ends, unpack_call_ends}

pub unpack_numbered : (file : List ℕ) (size : ℕ) (r : Refusal) → unpack_answer file size ≡ Err r
    → OneOf (numbers unpack) r
unfolding unpack_answer
unpack_numbered file size r e =
    let ns = numbers unpack in
    subst (AnswerEnds (OneOf ns)) (value_refused (unpack_test file size) _ r e)
    (unpack_ends (OneOf ns) file (full_causes ns file refl refl refl) size (λ n. one_of 8 ns refl))

pub unpack_keeps : (file old : List ℕ) (r : Refusal) → unpack_answer file (length old) ≡ Err r
    → unpack_leaves file old ≡ old
unfolding unpack_answer unpack_leaves
unpack_keeps file old r e = kept_old _ r (value_refused (unpack_test file (length old)) _ r e) _ old

pub unpack_words : (file : List ℕ) (size : ℕ) (d : List ℕ) → unpack_answer file size ≡ Ok d → length d ≡ 4
unfolding unpack_answer claim_in
unpack_words file size d e =
    ap length (sym (value_accepted (unpack_test file size) _ d e).1) ∙ length_elements file 1 4

pub unpack_called : (file taps taps' claim claim' : List ℕ) (code : ℕ) → UnpackCall file code taps taps' claim claim'
    → Answered code (call_numbers unpack) (λ a. unpack_call_test file (length taps) (length claim) ≡ a)
    (UnpackResult file taps' claim') ((taps' ≡ taps) × (claim' ≡ claim))
unfolding unpack_call
unpack_called file taps taps' claim claim' code h =
    let ns = call_numbers unpack in
    let t = unpack_call_test file (length taps) (length claim) in
    let d = claim_in file in
    digest_says code ns (λ a. t ≡ a) (UnpackResult file taps' claim') ((taps' ≡ taps) × (claim' ≡ claim)) t refl d
    h.four.coded
    (bits.unpack_bits file (length taps) (length claim))
    (unpack_call_ends (OneOf ns) file (full_causes ns file refl refl refl) (length taps) (length claim)
    (one_of 8 ns refl))
    (λ e. record {
      none = refl;
      taps_are = h.list ∙ ap (λ x. leaves x (taps_in file) taps) e;
      claim_is = output_new t d code claim claim' h.four e;
    })
    (λ r. (h.list ∙ ap (λ x. leaves x (taps_in file) taps) r.1, output_old t d code claim claim' h.four r))
