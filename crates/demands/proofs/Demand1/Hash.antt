-- Demand 1 of Hash.
-- Assumes nothing.
use mathlib.Core.Path.{◌≡◌, refl, sym, ap, subst, ◌∙◌}
use mathlib.Core.List.{List, [], ◌∷◌}
use Prim.Native.Nat.{ℕ}
use lib.ListN.{length}
use Rattle.std.specs.Prelude.{Ok, Err}
use Rattle.refusals.specs.Answers.{Answer, with_value}
use Rattle.refusals.specs.declared.Refusal.{Refusal}
use Rattle.refusals.proofs.Laws.{value_accepted, value_refused, AnswerEnds}
use Rattle.hash.specs.Hash as rescue
use Rattle.hash.specs.Answers.{hash_test, hash_answer}
use Rattle.hash.proofs.States.{final_state_state}
use Rattle.call_results.specs.HandsOver.{written, HandsOver}
use Rattle.call_answers.specs.Calls.{hash_call_test, hash_call}
use Rattle.call_answers.proofs.Theorems as bits
use Rattle.demands.specs.Demand1.{hash, numbers, call_numbers, OneOf, Answered, HashResult}
use Rattle.demands.proofs.Demand1.Numbers.{one_of, table_causes_lem}
use Rattle.demands.proofs.Demand1.Words.{state_says}
use Rattle.call_answers.proofs.Endings.Hash.{hash_ends, hash_call_ends}

pub hash_numbered : (T words : List ℕ) (r : Refusal) → hash_answer T words ≡ Err r → OneOf (numbers hash) r
unfolding hash_answer
hash_numbered T words r e =
    let ns = numbers hash in
    subst (AnswerEnds (OneOf ns)) (value_refused (hash_test T words) _ r e)
    (hash_ends (OneOf ns) (table_causes_lem ns refl refl refl) T words (λ i h. one_of 6 ns refl))

pub hash_words : (T words s : List ℕ) → hash_answer T words ≡ Ok s → length s ≡ 12
unfolding hash_answer
hash_words T words s e =
    ap length (sym (value_accepted (hash_test T words) _ s e).1) ∙ (final_state_state T _).size

pub hash_called : (T output output' : List ℕ) (w0 w1 w2 w3 w4 w5 w6 w7 code : ℕ)
    → HandsOver (hash_call T (w0 ∷ w1 ∷ w2 ∷ w3 ∷ w4 ∷ w5 ∷ w6 ∷ w7 ∷ []) (length output)) code output output'
    → Answered code (call_numbers hash)
    (λ a. hash_call_test T (w0 ∷ w1 ∷ w2 ∷ w3 ∷ w4 ∷ w5 ∷ w6 ∷ w7 ∷ []) (length output) ≡ a)
    (HashResult T (w0 ∷ w1 ∷ w2 ∷ w3 ∷ []) (w4 ∷ w5 ∷ w6 ∷ w7 ∷ []) output')
    (output' ≡ output)
unfolding hash_call
hash_called T output output' w0 w1 w2 w3 w4 w5 w6 w7 code h =
    let words : List ℕ = w0 ∷ w1 ∷ w2 ∷ w3 ∷ w4 ∷ w5 ∷ w6 ∷ w7 ∷ [] in
    let a : List ℕ = w0 ∷ w1 ∷ w2 ∷ w3 ∷ [] in
    let b : List ℕ = w4 ∷ w5 ∷ w6 ∷ w7 ∷ [] in
    let ns = call_numbers hash in
    let t = hash_call_test T words (length output) in
    let final = rescue.final_state T (rescue.input a b) in
    let left : Answer → List ℕ = λ x. written (with_value x final) output in
    state_says code ns (λ x. t ≡ x) (HashResult T a b output') (output' ≡ output) t refl final h.coded
    (bits.hash_bits T words (length output) refl)
    (hash_call_ends (OneOf ns) (table_causes_lem ns refl refl refl) T words (λ i l. one_of 6 ns refl) (length output)
    (one_of 8 ns refl))
    (λ e. record {
      none = refl;
      output_is = h.output ∙ ap left e;
    })
    (λ r. h.output ∙ ap left r.1)
