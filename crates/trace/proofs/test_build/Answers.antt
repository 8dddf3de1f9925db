-- `trace::test_build`: each return is the case of the definition that the tests before it left.
-- Assumes nothing.
use mathlib.Core.Path.{◌≡◌, refl, sym, ap, ◌∙◌}
use mathlib.Core.List.{List}
use Prim.Native.Nat.{ℕ, ◌*◌}
use native.Mathlib.Omega.{arith}
use borrow.Author.Tests.{eq-eqb, ne_eqb}
use lib.ListN.{length}
use Rattle.std.specs.Prelude.{Option, Some, None, Ok, Err, ok_or}
use Rattle.std.proofs.lemmas.Result.{err_from_is_err_and}
use Rattle.field_words.specs.Words.{first_bad, canonical_words}
use Rattle.numbers.specs.Numbers.{most_batches, is_tap_length, tap_word_batches, batches_if}
use Rattle.numbers.proofs.Laws.{tap_permitted, tap_refused}
use Rattle.refusals.specs.declared.Refusal.TheVariants.{TapLength, TapWord}
use Rattle.refusals.specs.Answers.{Answer, unless}
use Rattle.refusals.proofs.Laws.{refused_same, unless_refused, unless_passed, after_refused, after_accepted}
use Rattle.table.specs.Table.{table_test}
use Rattle.trace.specs.Answers.{build_test}
use Rattle.trace.proofs.test_build.Goals as goal

-- where the table is accepted and the destination has room, the words are left
roomy : (T w : List ℕ) (size : ℕ) {o : Answer} {b : Option ℕ} {k : ℕ} → Ok tt ≡ table_test T
    → b ≡ batches_if (is_tap_length most_batches (length w)) (tap_word_batches (length w))
    → b ≡ Some k
    → size ≡ 384 * k
    → o ≡ unless (canonical_words w) (TapWord (first_bad w)) (Ok tt)
    → o ≡ build_test T w size
unfolding build_test
roomy T w size table b some room e =
    let count = tap_permitted most_batches (length w) b some in
    after_accepted table refl
    (unless_passed _ count.0 (unless_passed _ (eq-eqb _ _ (room ∙ ap (λ n. 384 * n) (sym count.1))) e))

pub returns-in_err-test_and_ready : goal.returns-in_err-test_and_ready
unfolding build_test
returns-in_err-test_and_ready c =
    let p = err_from_is_err_and c.from_residual.result c.from_residual.ensures.1 in
    let table = c.in_err-test_and_ready.ensures in
    (after_refused _ (p.1 ∙ ap Err p.2 ∙ table.0) p.1, table.1)

pub returns-in_err-k : goal.returns-in_err-k
unfolding build_test
returns-in_err-k c =
    let p = err_from_is_err_and c.from_residual-in_err-k.result c.from_residual-in_err-k.ensures.1 in
    let table = c.in_ok-test_and_ready.ensures in
    let none : c.tap_batches.result ≡ None = grind arith in
    let same = refused_same (c.in_err-k.ensures.value ∙ ap (λ b. ok_or b TapLength) none) in (
      after_accepted table.0 refl
          (unless_refused _ (tap_refused most_batches (length c.args.taps.now) c.tap_batches.ensures none)
          (p.1 ∙ ap Err (p.2 ∙ same))),
      table.1,
    )

pub returns-then-size-k : goal.returns-then-size-k
unfolding build_test
returns-then-size-k c =
    let table = c.in_ok-test_and_ready.ensures in
    let some : c.tap_batches.result ≡ Some c.in_ok-k.k = grind arith in
    let count = tap_permitted most_batches (length c.args.taps.now) c.tap_batches.ensures some in
    let other = ne_eqb _ _ (λ e. c.if-size-k.true (e ∙ ap (λ n. 384 * n) count.1)) in
    (after_accepted table.0 refl (unless_passed _ count.0 (unless_refused _ other refl)), table.1)

pub returns-in-Some : goal.returns-in-Some
returns-in-Some c =
    let table = c.in_ok-test_and_ready.ensures in
    let some : c.tap_batches.result ≡ Some c.in_ok-k.k = grind arith in
    let bad = c.in-Some.ensures in (
      roomy _ _ _ table.0 c.tap_batches.ensures some c.if-size-k.false
          (unless_refused _ bad.0 (ap (λ i. Err (TapWord i)) bad.1)),
      table.1,
    )

pub returns : goal.returns
returns c =
    let table = c.in_ok-test_and_ready.ensures in
    let some : c.tap_batches.result ≡ Some c.in_ok-k.k = grind arith in (
      roomy _ _ _ table.0 c.tap_batches.ensures some c.if-size-k.false (unless_passed _ c.in_default.ensures refl),
      table.1,
    )
