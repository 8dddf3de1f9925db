-- Demand 1 of the short edition's reader.
-- Assumes nothing.
use mathlib.Core.Path.{◌≡◌, refl, sym, ap, subst, ◌∙◌}
use mathlib.Core.List.{List}
use Prim.Native.Nat.{ℕ}
use lib.ListN.{length}
use Rattle.std.specs.Prelude.{Ok, Err}
use Rattle.refusals.specs.Answers.{Answer, leaves}
use Rattle.refusals.specs.declared.Refusal.{Refusal}
use Rattle.refusals.proofs.Laws.{value_accepted, value_refused, AnswerEnds}
use Rattle.board_short_read.proofs.Round.{length_shorts}
use Rattle.board_short.specs.ShortBoard.{unpack_short_answer, unpack_short_test, short_taps_in, short_claim_in}
use Rattle.board_short.specs.ShortBoard.{unpack_short_leaves}
use Rattle.board_short.proofs.Round as short
use Rattle.call_answers.specs.Calls.{unpack_short_call_test, unpack_short_call, UnpackShortCall}
use Rattle.call_answers.proofs.Theorems as bits
use Rattle.demands.specs.Demand1.{unpack_short, numbers, call_numbers, OneOf, Answered, UnpackShortResult}
use Rattle.demands.proofs.Demand1.Numbers.{one_of, short_causes}
use Rattle.demands.proofs.Demand1.Words.{digest_says, output_new, output_old, kept_old}
use Rattle.call_answers.proofs.Endings.UnpackShort.{unpack_short_ends, unpack_short_call_ends}

pub unpack_short_numbered : (file : List ℕ) (size : ℕ) (r : Refusal) → unpack_short_answer file size ≡ Err r
    → OneOf (numbers unpack_short) r
unfolding unpack_short_answer
unpack_short_numbered file size r e =
    let ns = numbers unpack_short in
    subst (AnswerEnds (OneOf ns)) (value_refused (unpack_short_test file size) _ r e)
    (unpack_short_ends (OneOf ns) file (short_causes ns file refl refl refl refl) size (λ n. one_of 8 ns refl))

pub unpack_short_keeps : (file old : List ℕ) (r : Refusal) → unpack_short_answer file (length old) ≡ Err r
    → unpack_short_leaves file old ≡ old
unfolding unpack_short_answer unpack_short_leaves
unpack_short_keeps file old r e = kept_old _ r (value_refused (unpack_short_test file (length old)) _ r e) _ old

pub unpack_short_words : (file : List ℕ) (size : ℕ) (d : List ℕ) → unpack_short_answer file size ≡ Ok d
    → length d ≡ 4
unfolding unpack_short_answer short_claim_in
unpack_short_words file size d e =
    ap length (sym (value_accepted (unpack_short_test file size) _ d e).1) ∙ length_shorts file 1 4

pub unpack_short_called : (file taps taps' claim claim' : List ℕ) (code : ℕ)
    → UnpackShortCall file code taps taps' claim claim'
    → Answered code (call_numbers unpack_short) (λ a. unpack_short_call_test file (length taps) (length claim) ≡ a)
    (UnpackShortResult file taps' claim')
    ((taps' ≡ taps) × (claim' ≡ claim))
unfolding unpack_short_call
unpack_short_called file taps taps' claim claim' code h =
    let ns = call_numbers unpack_short in
    let t = unpack_short_call_test file (length taps) (length claim) in
    let d = short_claim_in file in
    let left : Answer → List ℕ = λ x. leaves x (short_taps_in file) taps in
    digest_says code ns (λ a. t ≡ a) (UnpackShortResult file taps' claim') ((taps' ≡ taps) × (claim' ≡ claim)) t refl d
    h.four.coded
    (bits.unpack_short_bits file (length taps) (length claim))
    (unpack_short_call_ends (OneOf ns) file (short_causes ns file refl refl refl refl)
    (length taps) (length claim) (one_of 8 ns refl))
    (λ e. record {
      none = refl;
      taps_are = h.list ∙ ap left e;
      claim_is = output_new t d code claim claim' h.four e;
    })
    (λ r. (h.list ∙ ap left r.1, output_old t d code claim claim' h.four r))
