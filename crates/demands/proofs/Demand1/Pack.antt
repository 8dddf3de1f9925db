-- Demand 1 of Pack.
-- Assumes nothing.
use mathlib.Core.Path.{◌≡◌, refl, ap, subst, ◌∙◌}
use mathlib.Core.List.{List, [], ◌∷◌}
use Prim.Native.Nat.{ℕ}
use lib.ListN.{length}
use Rattle.std.specs.Prelude.{Err}
use Rattle.refusals.specs.Answers.{leaves}
use Rattle.refusals.specs.declared.Refusal.{Refusal}
use Rattle.refusals.proofs.Laws.{AnswerEnds}
use Rattle.board.specs.Board.{pack_test, packed, pack_leaves, most_file_batches}
use Rattle.call_answers.specs.Calls.{PackCall}
use Rattle.call_answers.proofs.Theorems as bits
use Rattle.demands.specs.Demand1.{pack, numbers, call_numbers, OneOf, Answered, PackResult}
use Rattle.demands.proofs.Demand1.Numbers.{one_of, taps_causes}
use Rattle.demands.proofs.Demand1.Words.{answer_says, kept_old}
use Rattle.call_answers.proofs.Endings.Pack.{pack_ends}

pack_numbers : (w claim : List ℕ) (size : ℕ) → AnswerEnds (OneOf (numbers pack)) (pack_test w claim size)
pack_numbers w claim size =
    let ns = numbers pack in
    pack_ends (OneOf ns) w claim size (one_of 8 ns refl) (λ i h. one_of 9 ns refl)
    (taps_causes ns most_file_batches w refl refl)

pub pack_numbered : (w claim : List ℕ) (size : ℕ) (r : Refusal) → pack_test w claim size ≡ Err r
    → OneOf (numbers pack) r
pack_numbered w claim size r e = subst (AnswerEnds (OneOf (numbers pack))) e (pack_numbers w claim size)

pub pack_keeps : (w claim old : List ℕ) (r : Refusal) → pack_test w claim (length old) ≡ Err r
    → pack_leaves w claim old ≡ old
unfolding pack_leaves
pack_keeps w claim old r e = kept_old _ r e _ old

pub pack_called : (w file file' : List ℕ) (c0 c1 c2 c3 code : ℕ) → PackCall w (c0 ∷ c1 ∷ c2 ∷ c3 ∷ []) file code file'
    → Answered code (call_numbers pack) (λ a. pack_test w (c0 ∷ c1 ∷ c2 ∷ c3 ∷ []) (length file) ≡ a)
    (PackResult w (c0 ∷ c1 ∷ c2 ∷ c3 ∷ []) file') (file' ≡ file)
unfolding pack_leaves
pack_called w file file' c0 c1 c2 c3 code h =
    let claim : List ℕ = c0 ∷ c1 ∷ c2 ∷ c3 ∷ [] in
    answer_says code (call_numbers pack) (λ a. pack_test w claim (length file) ≡ a) (PackResult w claim file')
    (file' ≡ file) (pack_test w claim (length file)) refl h.coded
    (bits.pack_bits w claim (length file) refl)
    (pack_numbers w claim (length file))
    (λ e. record { none = refl; file_is = h.file ∙ ap (λ x. leaves x (packed w claim) file) e })
    (λ r. h.file ∙ ap (λ x. leaves x (packed w claim) file) r.1)
