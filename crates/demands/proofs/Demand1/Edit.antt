-- Demand 1 of Edit.
-- Assumes nothing.
use mathlib.Core.Path.{◌≡◌, refl, sym, ap, subst, ◌∙◌}
use mathlib.Core.List.{List, [], ◌∷◌}
use Prim.Native.Nat.{ℕ}
use lib.ListN.{length}
use Rattle.std.specs.Prelude.{Ok, Err}
use Rattle.numbers.specs.Numbers.{trace_word_batches}
use Rattle.refusals.specs.Answers.{leaves}
use Rattle.refusals.specs.declared.Refusal.{Refusal}
use Rattle.refusals.proofs.Laws.{both_accepted, value_accepted, value_refused, AnswerEnds}
use Rattle.hash.specs.Hash as rescue
use Rattle.trace.specs.Trace.{trace}
use Rattle.check_trace.specs.Answers.{opening_test}
use Rattle.check_trace.proofs.Answers.{Opened, opened}
use Rattle.trace_edit.specs.Answers.{edit_answer, edit_leaves, edit_test, altered_taps}
use Rattle.trace_edit.proofs.Answers.{edit_inputs}
use Rattle.call_answers.specs.Calls.{edit_call_test, edit_call, EditCall}
use Rattle.call_answers.proofs.Theorems as bits
use Rattle.demands.specs.Demand1.{edit, numbers, call_numbers, OneOf, Answered, EditResult}
use Rattle.demands.proofs.Demand1.Numbers.{one_of, table_causes_lem, trace_causes}
use Rattle.demands.proofs.Demand1.Chain.{chain_size}
use Rattle.demands.proofs.Demand1.Words.{digest_says, output_new, output_old, kept_old}
use Rattle.call_answers.proofs.Endings.Edit.{edit_ends, edit_call_ends}

pub edit_numbered : (T t claim : List ℕ) (c n : ℕ) (new : List ℕ) (r : Refusal)
    → edit_answer T t claim c n new ≡ Err r → OneOf (numbers edit) r
unfolding edit_answer
edit_numbered T t claim c n new r e =
    let ns = numbers edit in
    subst (AnswerEnds (OneOf ns)) (value_refused (edit_test T t claim c n new) _ r e)
    (edit_ends (OneOf ns) T t claim c
    (trace_causes ns T t claim c (table_causes_lem ns refl refl refl) refl refl refl refl) n new (one_of 15 ns refl)
    (λ i h. one_of 6 ns refl) (λ l a h i j m f. one_of 11 ns refl))

pub edit_keeps : (T t claim : List ℕ) (c n : ℕ) (new : List ℕ) (r : Refusal)
    → edit_answer T t claim c n new ≡ Err r → edit_leaves T t claim c n new ≡ t
unfolding edit_answer edit_leaves
edit_keeps T t claim c n new r e = kept_old _ r (value_refused (edit_test T t claim c n new) _ r e) _ t

pub edit_words : (T t claim : List ℕ) (c n : ℕ) (new d : List ℕ) → edit_answer T t claim c n new ≡ Ok d
    → length d ≡ 4
unfolding edit_answer
edit_words T t claim c n new d e =
    let a = value_accepted (edit_test T t claim c n new) _ d e in
    let i = edit_inputs T t claim c n new a.0 in
    ap length (sym a.1) ∙ chain_size T (rescue.first_taps c (altered_taps T t n new)) c i.0.opening.low

edit_call_inputs : (T t claim : List ℕ) (c n : ℕ) (new : List ℕ) (size : ℕ)
    → edit_call_test T t claim c n new size ≡ Ok tt → Opened T t c (trace_word_batches (length t))
unfolding edit_call_test
edit_call_inputs T t claim c n new size e = opened T t c (both_accepted (opening_test T t c) _ e).0

pub edit_called : (T t t' output output' : List ℕ) (c0 c1 c2 c3 c n w0 w1 w2 w3 code : ℕ)
    → EditCall T t (c0 ∷ c1 ∷ c2 ∷ c3 ∷ []) c n (w0 ∷ w1 ∷ w2 ∷ w3 ∷ []) code t' output output'
    → Answered code (call_numbers edit)
    (λ a. edit_call_test T t (c0 ∷ c1 ∷ c2 ∷ c3 ∷ []) c n (w0 ∷ w1 ∷ w2 ∷ w3 ∷ []) (length output) ≡ a)
    (EditResult T t c n (w0 ∷ w1 ∷ w2 ∷ w3 ∷ []) t' output')
    ((t' ≡ t) × (output' ≡ output))
unfolding edit_call
edit_called T t t' output output' c0 c1 c2 c3 c n w0 w1 w2 w3 code h =
    let claim : List ℕ = c0 ∷ c1 ∷ c2 ∷ c3 ∷ [] in
    let new : List ℕ = w0 ∷ w1 ∷ w2 ∷ w3 ∷ [] in
    let ns = call_numbers edit in
    let k = trace_word_batches (length t) in
    let w = altered_taps T t n new in
    let first = rescue.first_taps c w in
    let tested = edit_call_test T t claim c n new (length output) in
    let d = (rescue.chain T first c) in
    digest_says code ns (λ a. tested ≡ a) (EditResult T t c n new t' output') ((t' ≡ t) × (output' ≡ output)) tested
    refl d h.four.coded
    (bits.edit_bits T t claim c refl n new (length output) refl)
    (edit_call_ends (OneOf ns) T t claim c
    (trace_causes ns T t claim c (table_causes_lem ns refl refl refl) refl refl refl refl) n new (one_of 15 ns refl)
    (λ i l. one_of 6 ns refl) (length output) (one_of 8 ns refl)
    (λ s l a h i q m f. one_of 11 ns refl))
    (λ e. (let o = edit_call_inputs T t claim c n new (length output) e in record {
      none = refl;
      k = k;
      permitted = o.permitted;
      rows = o.size;
      claimed = (o.low, o.high);
      output_is = output_new tested d code output output' h.four e;
      rows_are = h.rows ∙ ap (λ x. leaves x (trace T w k) t) e;
    }))
    (λ r. (h.rows ∙ ap (λ x. leaves x (trace T w k) t) r.1, output_old tested d code output output' h.four r))
