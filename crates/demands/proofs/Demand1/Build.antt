-- Demand 1 of Build.
-- Assumes nothing.
use mathlib.Core.Path.{◌≡◌, refl, sym, ap, subst, ◌∙◌}
use mathlib.Core.Bool.{◌&&◌}
use mathlib.Core.List.{List}
use Prim.Native.Nat.{ℕ, ◌*◌}
use borrow.Author.Tests.{eqb-true}
use lib.Dec.{eqb}
use lib.ListN.{length}
use Rattle.std.specs.Prelude.{Ok, Err}
use Rattle.lists.proofs.Bools.{and_both}
use Rattle.numbers.specs.Numbers.{most_batches, is_tap_length, tap_word_batches}
use Rattle.refusals.specs.Answers.{leaves}
use Rattle.refusals.specs.declared.Refusal.{Refusal}
use Rattle.refusals.specs.declared.Refusal.TheVariants.{TapLength, DestinationLength}
use Rattle.refusals.proofs.Laws.{passed, both_accepted, value_accepted, value_refused, AnswerEnds}
use Rattle.table.specs.Table.{table_test}
use Rattle.hash.specs.Hash as rescue
use Rattle.trace.specs.Trace.{trace}
use Rattle.trace.specs.Answers.{build_answer, build_leaves, build_test}
use Rattle.trace.proofs.Answers.{BuildInputs, build_inputs}
use Rattle.call_answers.specs.Calls.{build_call_test, build_call, BuildCall}
use Rattle.call_answers.proofs.Answers.{build_room}
use Rattle.call_answers.proofs.Theorems as bits
use Rattle.demands.specs.Demand1.{build, numbers, call_numbers, OneOf, Answered, BuildResult}
use Rattle.demands.proofs.Demand1.Numbers.{one_of, table_causes_lem, taps_causes}
use Rattle.demands.proofs.Demand1.Chain.{chain_size}
use Rattle.demands.proofs.Demand1.Words.{digest_says, output_new, output_old, kept_old}
use Rattle.call_answers.proofs.Endings.Build.{build_ends, build_call_ends}

pub build_numbered : (T w : List ℕ) (size : ℕ) (r : Refusal) → build_answer T w size ≡ Err r
    → OneOf (numbers build) r
unfolding build_answer
build_numbered T w size r e =
    let ns = numbers build in
    subst (AnswerEnds (OneOf ns)) (value_refused (build_test T w size) _ r e)
    (build_ends (OneOf ns) (table_causes_lem ns refl refl refl) T w (taps_causes ns most_batches w refl refl) size
    (one_of 8 ns refl))

pub build_keeps : (T w old : List ℕ) (r : Refusal) → build_answer T w (length old) ≡ Err r
    → build_leaves T w old ≡ old
unfolding build_answer build_leaves
build_keeps T w old r e = kept_old _ r (value_refused (build_test T w (length old)) _ r e) _ old

pub build_words : (T w : List ℕ) (size : ℕ) (d : List ℕ) → build_answer T w size ≡ Ok d → length d ≡ 4
unfolding build_answer
build_words T w size d e =
    let a = value_accepted (build_test T w size) _ d e in
    ap length (sym a.1) ∙ chain_size T w (tap_word_batches (length w)) (build_inputs T w size a.0).permitted.low

build_call_inputs : (T w : List ℕ) (rows size : ℕ) → build_call_test T w rows size ≡ Ok tt
    → BuildInputs T w rows (tap_word_batches (length w))
unfolding build_call_test
build_call_inputs T w rows size e =
    let a = both_accepted (table_test T) _ e in
    let b = passed (is_tap_length most_batches (length w)) TapLength _ a.1 in
    let c = passed (eqb size 4 && eqb rows (384 * tap_word_batches (length w))) DestinationLength _ b.1 in
    let d = and_both (eqb size 4) (eqb rows (384 * tap_word_batches (length w))) c.0 in
    build_inputs T w rows (build_room T w size rows (eqb-true size 4 d.0) ∙ e)

pub build_called : (T w rows rows' output output' : List ℕ) (code : ℕ) → BuildCall T w code rows rows' output output'
    → Answered code (call_numbers build) (λ a. build_call_test T w (length rows) (length output) ≡ a)
    (BuildResult T w rows' output') ((rows' ≡ rows) × (output' ≡ output))
unfolding build_call
build_called T w rows rows' output output' code h =
    let ns = call_numbers build in
    let k = tap_word_batches (length w) in
    let t = build_call_test T w (length rows) (length output) in
    let d = (rescue.chain T w k) in
    digest_says code ns (λ a. t ≡ a) (BuildResult T w rows' output') ((rows' ≡ rows) × (output' ≡ output)) t refl d
    h.four.coded
    (bits.build_bits T w (length rows) (length output))
    (build_call_ends (OneOf ns) (table_causes_lem ns refl refl refl) T w
    (taps_causes ns most_batches w refl refl) (length rows) (length output) (one_of 8 ns refl))
    (λ e. (let i = build_call_inputs T w (length rows) (length output) e in record {
      none = refl;
      k = k;
      permitted = i.permitted;
      taps = i.taps;
      output_is = output_new t d code output output' h.four e;
      rows_are = h.rows ∙ ap (λ x. leaves x (trace T w k) rows) e;
    }))
    (λ r. (h.rows ∙ ap (λ x. leaves x (trace T w k) rows) r.1, output_old t d code output output' h.four r))
