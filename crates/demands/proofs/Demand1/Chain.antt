-- Demand 1 of Chain.
-- Assumes nothing.
use mathlib.Core.Path.{◌≡◌, refl, sym, ap, subst, ◌∙◌}
use mathlib.Core.List.{List}
use Prim.Native.Nat.{ℕ, zero, suc, ◌*◌, ◌≤◌}
use native.Mathlib.Omega.{arith}
use borrow.Author.Tests.{eqb-true}
use lib.Dec.{eqb}
use lib.ListN.{length}
use Rattle.std.specs.Prelude.{Ok, Err}
use Rattle.numbers.specs.Numbers.{most_batches, is_tap_length, tap_word_batches}
use Rattle.refusals.specs.declared.Refusal.{Refusal}
use Rattle.refusals.specs.declared.Refusal.TheVariants.{TapLength, DestinationLength}
use Rattle.refusals.proofs.Laws.{passed, both_accepted, value_accepted, value_refused, AnswerEnds}
use Rattle.table.specs.Table.{table_test}
use Rattle.hash.specs.Hash as rescue
use Rattle.hash.proofs.Inputs.{hash_tap}
use Rattle.hash_chain.specs.Answers.{chain_test, chain_answer}
use Rattle.hash_chain.proofs.Answers.{ChainInputs, chain_inputs}
use Rattle.call_results.specs.HandsOver.{HandsOver}
use Rattle.call_answers.specs.Calls.{chain_call_test, chain_call}
use Rattle.call_answers.proofs.Answers.{chain_room}
use Rattle.call_answers.proofs.Theorems as bits
use Rattle.demands.specs.Demand1.{chain, numbers, call_numbers, OneOf, Answered, ChainResult}
use Rattle.demands.proofs.Demand1.Numbers.{one_of, table_causes_lem, taps_causes}
use Rattle.demands.proofs.Demand1.Words.{digest_says, output_new, output_old}
use Rattle.call_answers.proofs.Endings.Chain.{chain_ends, chain_call_ends}

pub chain_numbered : (T w : List ℕ) (r : Refusal) → chain_answer T w ≡ Err r → OneOf (numbers chain) r
unfolding chain_answer
chain_numbered T w r e =
    let ns = numbers chain in
    subst (AnswerEnds (OneOf ns)) (value_refused (chain_test T w) _ r e)
    (chain_ends (OneOf ns) (table_causes_lem ns refl refl refl) T w (taps_causes ns most_batches w refl refl))

-- the output of one hash or more has four words, whatever it was taken from
output_size : (T w : List ℕ) (h : ℕ) → 1 ≤ h → length (rescue.output_at T w h) ≡ 4
unfolding rescue.output_at
output_size T w zero l = absurd (omega arith)
output_size T w (suc h) l = (hash_tap T _ _).size

pub chain_size : (T w : List ℕ) (k : ℕ) → 1 ≤ k → length (rescue.chain T w k) ≡ 4
unfolding rescue.chain
chain_size T w k some = output_size T w (3 * k) (omega arith)

pub chain_words : (T w d : List ℕ) → chain_answer T w ≡ Ok d → length d ≡ 4
unfolding chain_answer
chain_words T w d e =
    let a = value_accepted (chain_test T w) _ d e in
    ap length (sym a.1) ∙ chain_size T w (tap_word_batches (length w)) (chain_inputs T w a.0).permitted.low

chain_call_inputs : (T w : List ℕ) (size : ℕ) → chain_call_test T w size ≡ Ok tt
    → ChainInputs T w (tap_word_batches (length w))
unfolding chain_call_test
chain_call_inputs T w size e =
    let a = both_accepted (table_test T) _ e in
    let b = passed (is_tap_length most_batches (length w)) TapLength _ a.1 in
    let c = passed (eqb size 4) DestinationLength _ b.1 in
    chain_inputs T w (chain_room T w size (eqb-true size 4 c.0) ∙ e)

pub chain_called : (T w output output' : List ℕ) (code : ℕ)
    → HandsOver (chain_call T w (length output)) code output output'
    → Answered code (call_numbers chain) (λ a. chain_call_test T w (length output) ≡ a)
    (ChainResult T w output') (output' ≡ output)
unfolding chain_call
chain_called T w output output' code h =
    let ns = call_numbers chain in
    let k = tap_word_batches (length w) in
    let t = chain_call_test T w (length output) in
    let d = (rescue.chain T w k) in
    digest_says code ns (λ a. t ≡ a) (ChainResult T w output') (output' ≡ output) t refl d h.coded
    (bits.chain_bits T w (length output))
    (chain_call_ends (OneOf ns) (table_causes_lem ns refl refl refl) T w
    (taps_causes ns most_batches w refl refl) (length output) (one_of 8 ns refl))
    (λ e. (let i = chain_call_inputs T w (length output) e in record {
      none = refl;
      k = k;
      permitted = i.permitted;
      taps = i.size;
      output_is = output_new t d code output output' h e;
    }))
    (output_old t d code output output' h)
