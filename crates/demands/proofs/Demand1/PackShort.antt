-- Demand 1 of the short edition's writer.
-- Assumes nothing.
use mathlib.Core.Path.{◌≡◌, refl, ap, subst, ◌∙◌}
use mathlib.Core.List.{List, [], ◌∷◌}
use Prim.Native.Nat.{ℕ}
use lib.ListN.{length}
use Rattle.std.specs.Prelude.{Err}
use Rattle.numbers.specs.Numbers.{most_batches}
use Rattle.refusals.specs.Answers.{Answer, leaves}
use Rattle.refusals.specs.declared.Refusal.{Refusal}
use Rattle.refusals.proofs.Laws.{AnswerEnds}
use Rattle.board_short.specs.ShortBoard.{pack_short_test, packed_short, pack_short_leaves}
use Rattle.call_answers.specs.Calls.{PackShortCall}
use Rattle.call_answers.proofs.Theorems as bits
use Rattle.demands.specs.Demand1.{pack_short, numbers, call_numbers, OneOf, Answered, PackShortResult}
use Rattle.demands.proofs.Demand1.Numbers.{one_of, taps_causes}
use Rattle.demands.proofs.Demand1.Words.{answer_says, kept_old}
use Rattle.call_answers.proofs.Endings.Pack.{pack_short_ends}

pack_short_numbers : (w claim : List ℕ) (size : ℕ)
    → AnswerEnds (OneOf (numbers pack_short)) (pack_short_test w claim size)
pack_short_numbers w claim size =
    let ns = numbers pack_short in
    pack_short_ends (OneOf ns) w claim size (one_of 8 ns refl) (λ i h. one_of 9 ns refl)
    (taps_causes ns most_batches w refl refl)

pub pack_short_numbered : (w claim : List ℕ) (size : ℕ) (r : Refusal) → pack_short_test w claim size ≡ Err r
    → OneOf (numbers pack_short) r
pack_short_numbered w claim size r e =
    subst (AnswerEnds (OneOf (numbers pack_short))) e (pack_short_numbers w claim size)

pub pack_short_keeps : (w claim old : List ℕ) (r : Refusal) → pack_short_test w claim (length old) ≡ Err r
    → pack_short_leaves w claim old ≡ old
unfolding pack_short_leaves
pack_short_keeps w claim old r e = kept_old _ r e _ old

pub pack_short_called : (w file file' : List ℕ) (c0 c1 c2 c3 code : ℕ)
    → PackShortCall w (c0 ∷ c1 ∷ c2 ∷ c3 ∷ []) file code file'
    → Answered code (call_numbers pack_short) (λ a. pack_short_test w (c0 ∷ c1 ∷ c2 ∷ c3 ∷ []) (length file) ≡ a)
    (PackShortResult w (c0 ∷ c1 ∷ c2 ∷ c3 ∷ []) file') (file' ≡ file)
unfolding pack_short_leaves
pack_short_called w file file' c0 c1 c2 c3 code h =
    let claim : List ℕ = c0 ∷ c1 ∷ c2 ∷ c3 ∷ [] in
    let left : Answer → List ℕ = λ x. leaves x (packed_short w claim) file in
    answer_says code (call_numbers pack_short) (λ a. pack_short_test w claim (length file) ≡ a)
    (PackShortResult w claim file') (file' ≡ file) (pack_short_test w claim (length file)) refl h.coded
    (bits.pack_short_bits w claim (length file) refl)
    (pack_short_numbers w claim (length file))
    (λ e. record { none = refl; file_is = h.file ∙ ap left e })
    (λ r. h.file ∙ ap left r.1)
