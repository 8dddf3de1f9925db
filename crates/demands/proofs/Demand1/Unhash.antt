-- Demand 1 of Unhash.
-- Assumes nothing.
use mathlib.Core.Path.{◌≡◌, refl, sym, ap, subst, ◌∙◌}
use mathlib.Core.List.{List, [], ◌∷◌}
use Prim.Native.Nat.{ℕ}
use lib.ListN.{length}
use Rattle.std.specs.Prelude.{Ok, Err}
use Rattle.refusals.specs.Answers.{Answer, leaves}
use Rattle.refusals.specs.declared.Refusal.{Refusal}
use Rattle.refusals.proofs.Laws.{value_accepted, value_refused, AnswerEnds}
use Rattle.hash_undo.specs.Unhash.{taps_before}
use Rattle.hash_undo.specs.Answers.{unhash_test, unhash_answer}
use Rattle.hash_undo.proofs.Theorems.{taps_size}
use Rattle.call_answers.specs.Calls.{unhash_call_test, UnhashCall}
use Rattle.call_answers.proofs.Theorems as bits
use Rattle.demands.specs.Demand1.{unhash, numbers, call_numbers, OneOf, Answered, UnhashResult}
use Rattle.demands.proofs.Demand1.Numbers.{one_of, table_causes_lem}
use Rattle.demands.proofs.Demand1.Words.{answer_says}
use Rattle.call_answers.proofs.Endings.Unhash.{unhash_ends, unhash_call_ends}

pub unhash_numbered : (T s : List ℕ) (r : Refusal) → unhash_answer T s ≡ Err r → OneOf (numbers unhash) r
unfolding unhash_answer
unhash_numbered T s r e =
    let ns = numbers unhash in
    subst (AnswerEnds (OneOf ns)) (value_refused (unhash_test T s) _ r e)
    (unhash_ends (OneOf ns) (table_causes_lem ns refl refl refl) T s (λ i h. one_of 6 ns refl) (λ t c. one_of 16 ns refl))

pub unhash_words : (T s p : List ℕ) → unhash_answer T s ≡ Ok p → length p ≡ 8
unfolding unhash_answer
unhash_words T s p e = ap length (sym (value_accepted (unhash_test T s) _ p e).1) ∙ taps_size T s

pub unhash_called : (T taps taps' : List ℕ) (s0 s1 s2 s3 s4 s5 s6 s7 s8 s9 s10 s11 code : ℕ)
    → let s = s0 ∷ s1 ∷ s2 ∷ s3 ∷ s4 ∷ s5 ∷ s6 ∷ s7 ∷ s8 ∷ s9 ∷ s10 ∷ s11 ∷ [] in
    UnhashCall T s code taps taps' → Answered code (call_numbers unhash) (λ a. unhash_call_test T s (length taps) ≡ a)
    (UnhashResult T s taps') (taps' ≡ taps)
unhash_called T taps taps' s0 s1 s2 s3 s4 s5 s6 s7 s8 s9 s10 s11 code h =
    let s : List ℕ = s0 ∷ s1 ∷ s2 ∷ s3 ∷ s4 ∷ s5 ∷ s6 ∷ s7 ∷ s8 ∷ s9 ∷ s10 ∷ s11 ∷ [] in
    let ns = call_numbers unhash in
    let left : Answer → List ℕ = λ x. leaves x (taps_before T s) taps in
    answer_says code ns (λ a. unhash_call_test T s (length taps) ≡ a) (UnhashResult T s taps') (taps' ≡ taps)
    (unhash_call_test T s (length taps)) refl h.coded
    (bits.unhash_bits T s (length taps) refl)
    (unhash_call_ends (OneOf ns) (table_causes_lem ns refl refl refl) T s (λ i l. one_of 6 ns refl)
    (λ t c. one_of 16 ns refl) (length taps) (one_of 8 ns refl))
    (λ e. record { none = refl; taps_are = h.taps ∙ ap left e })
    (λ r. h.taps ∙ ap left r.1)
