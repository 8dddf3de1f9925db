-- Demand 1 of the converter to the full edition.
-- Assumes nothing.
use mathlib.Core.Path.{◌≡◌, refl, ap, subst, ◌∙◌}
use mathlib.Core.List.{List}
use Prim.Native.Nat.{ℕ}
use lib.ListN.{length}
use Rattle.std.specs.Prelude.{Err}
use Rattle.refusals.specs.Answers.{Answer, leaves}
use Rattle.refusals.specs.declared.Refusal.{Refusal}
use Rattle.refusals.proofs.Laws.{AnswerEnds}
use Rattle.board.specs.Board.{packed}
use Rattle.board_short.specs.ShortBoard.{short_taps_in, short_claim_in}
use Rattle.board_to_full.specs.ToFull.{to_full_test, to_full_leaves}
use Rattle.call_answers.specs.Calls.{ToFullCall}
use Rattle.call_answers.proofs.Theorems as bits
use Rattle.demands.specs.Demand1.{to_full, numbers, call_numbers, OneOf, Answered, ToFullResult}
use Rattle.demands.proofs.Demand1.Numbers.{one_of, short_causes}
use Rattle.demands.proofs.Demand1.Words.{answer_says, kept_old}
use Rattle.call_answers.proofs.Endings.ToFull.{to_full_ends}

to_full_numbers : (file : List ℕ) (size : ℕ) → AnswerEnds (OneOf (numbers to_full)) (to_full_test file size)
to_full_numbers file size =
    let ns = numbers to_full in
    to_full_ends (OneOf ns) file (short_causes ns file refl refl refl refl) size (one_of 19 ns refl) (one_of 8 ns refl)

pub to_full_numbered : (file : List ℕ) (size : ℕ) (r : Refusal) → to_full_test file size ≡ Err r
    → OneOf (numbers to_full) r
to_full_numbered file size r e = subst (AnswerEnds (OneOf (numbers to_full))) e (to_full_numbers file size)

pub to_full_keeps : (file old : List ℕ) (r : Refusal) → to_full_test file (length old) ≡ Err r
    → to_full_leaves file old ≡ old
unfolding to_full_leaves
to_full_keeps file old r e = kept_old _ r e _ old

pub to_full_called : (short file file' : List ℕ) (code : ℕ) → ToFullCall short file code file'
    → Answered code (call_numbers to_full) (λ a. to_full_test short (length file) ≡ a)
    (ToFullResult short file') (file' ≡ file)
unfolding to_full_leaves
to_full_called short file file' code h =
    let left : Answer → List ℕ = λ x. leaves x (packed (short_taps_in short) (short_claim_in short)) file in
    answer_says code (call_numbers to_full) (λ a. to_full_test short (length file) ≡ a) (ToFullResult short file')
    (file' ≡ file) (to_full_test short (length file)) refl h.coded
    (bits.to_full_bits short (length file))
    (to_full_numbers short (length file))
    (λ e. record { none = refl; file_is = h.file ∙ ap left e })
    (λ r. h.file ∙ ap left r.1)
