-- Demand 1 of the converter to the short edition.
-- Assumes nothing.
use mathlib.Core.Path.{◌≡◌, refl, ap, subst, ◌∙◌}
use mathlib.Core.List.{List}
use Prim.Native.Nat.{ℕ}
use lib.ListN.{length}
use Rattle.std.specs.Prelude.{Err}
use Rattle.refusals.specs.Answers.{Answer, leaves}
use Rattle.refusals.specs.declared.Refusal.{Refusal}
use Rattle.refusals.proofs.Laws.{AnswerEnds}
use Rattle.board.specs.Board.{taps_in, claim_in}
use Rattle.board_short.specs.ShortBoard.{packed_short}
use Rattle.board_to_short.specs.ToShort.{to_short_test, to_short_leaves}
use Rattle.call_answers.specs.Calls.{ToShortCall}
use Rattle.call_answers.proofs.Theorems as bits
use Rattle.demands.specs.Demand1.{to_short, numbers, call_numbers, OneOf, Answered, ToShortResult}
use Rattle.demands.proofs.Demand1.Numbers.{one_of, full_causes}
use Rattle.demands.proofs.Demand1.Words.{answer_says, kept_old}
use Rattle.call_answers.proofs.Endings.ToShort.{to_short_ends}

to_short_numbers : (file : List ℕ) (size : ℕ) → AnswerEnds (OneOf (numbers to_short)) (to_short_test file size)
to_short_numbers file size =
    let ns = numbers to_short in
    to_short_ends (OneOf ns) file (full_causes ns file refl refl refl) size (one_of 19 ns refl) (one_of 8 ns refl)

pub to_short_numbered : (file : List ℕ) (size : ℕ) (r : Refusal) → to_short_test file size ≡ Err r
    → OneOf (numbers to_short) r
to_short_numbered file size r e = subst (AnswerEnds (OneOf (numbers to_short))) e (to_short_numbers file size)

pub to_short_keeps : (file old : List ℕ) (r : Refusal) → to_short_test file (length old) ≡ Err r
    → to_short_leaves file old ≡ old
unfolding to_short_leaves
to_short_keeps file old r e = kept_old _ r e _ old

pub to_short_called : (file short short' : List ℕ) (code : ℕ) → ToShortCall file short code short'
    → Answered code (call_numbers to_short) (λ a. to_short_test file (length short) ≡ a)
    (ToShortResult file short') (short' ≡ short)
unfolding to_short_leaves
to_short_called file short short' code h =
    let left : Answer → List ℕ = λ x. leaves x (packed_short (taps_in file) (claim_in file)) short in
    answer_says code (call_numbers to_short) (λ a. to_short_test file (length short) ≡ a) (ToShortResult file short')
    (short' ≡ short) (to_short_test file (length short)) refl h.coded
    (bits.to_short_bits file (length short))
    (to_short_numbers file (length short))
    (λ e. record { none = refl; short_is = h.short ∙ ap left e })
    (λ r. h.short ∙ ap left r.1)
