-- What the tests of Unhash say where they accept, that they accept what passes each of them, and what it then answers.
-- Assumes nothing.
use mathlib.Core.Path.{◌≡◌, refl, sym, ap, ◌∙◌}
use mathlib.Core.Bool.{Bool, true, false}
use mathlib.Core.List.{List}
use Prim.Native.Nat.{ℕ}
use Rattle.std.specs.Prelude.{Ok, Err}
use Rattle.field_words.specs.Words.{AllCanonical, first_bad, canonical_words}
use Rattle.field_words.proofs.Laws.{good_test, test_good}
use Rattle.refusals.specs.declared.Refusal.{Refusal}
use Rattle.refusals.specs.declared.Refusal.TheVariants.{TapWord, NoPair}
use Rattle.refusals.specs.Answers.{Answer, unless, after}
use Rattle.refusals.proofs.Laws.{passed, both_accepted, value_turned_back, value_returned}
use Rattle.table.specs.Table.{IsTable, table_test}
use Rattle.table.proofs.Theorems.{test_sound, test_complete}
use Rattle.hash.specs.Answers.{hash_test}
use Rattle.hash.proofs.Answers.{hash_inputs}
use Rattle.hash_undo.specs.Unhash.{input_before, taps_before, ends_in_zeros}
use Rattle.hash_undo.specs.Answers.{unhash_test, unhash_answer}
use Rattle.hash_undo.proofs.Rounds.{input_before_state}
use Rattle.hash_undo.proofs.Taps.{eight_cells, first_cells}

pub record UnhashInputs (T s : List ℕ) : Type 0 where
  pub table : IsTable T
  pub canonical : AllCanonical s
  pub zeros : ends_in_zeros (input_before T s) ≡ true

pub unhash_inputs : (T s : List ℕ) → unhash_test T s ≡ Ok tt → UnhashInputs T s
unfolding unhash_test
unhash_inputs T s e =
    let a = both_accepted (table_test T) _ e in
    let b = passed (canonical_words s) _ _ a.1 in
    record {
      table = test_sound T a.0;
      canonical = good_test s b.0;
      zeros = (passed (ends_in_zeros (input_before T s)) NoPair (Ok tt) b.1).0;
    }

-- accepted table and canonical cells: only the zeros are left to be tested
pub unhash_left : (T s : List ℕ) → IsTable T → AllCanonical s
    → unhash_test T s ≡ unless (ends_in_zeros (input_before T s)) NoPair (Ok tt)
unfolding unhash_test
unhash_left T s h a = rw (test_complete T h, test_good s a)

pub unhash_passes : (T s : List ℕ) → UnhashInputs T s → unhash_test T s ≡ Ok tt
unhash_passes T s h = unhash_left T s h.table h.canonical ∙ rw h.zeros

-- it begins with the tests of Hash
pub as_hash : (T s : List ℕ)
    → unhash_test T s ≡ after (hash_test T s) (unless (ends_in_zeros (input_before T s)) NoPair (Ok tt))
unfolding unhash_test hash_test
as_hash T s = go (table_test T) (canonical_words s) _
  where
    go : (a : Answer) (b : Bool) (rest : Answer)
        → after a (unless b (TapWord (first_bad s)) rest)
        ≡ after (after a (unless b (TapWord (first_bad s)) (Ok tt))) rest
    go (Ok _) true rest = refl
    go (Ok _) false rest = refl
    go (Err r) b rest = refl

-- ---- what the function answers, from what it found: a is what the tests of Hash answered
module _ (T s : List ℕ) {a : Answer} (e : a ≡ hash_test T s) where
  pub unhash_turned_back : {r : Refusal} → a ≡ Err r → Err r ≡ unhash_answer T s
  unfolding unhash_answer
  unhash_turned_back q =
      let rest = unless (ends_in_zeros (input_before T s)) NoPair (Ok tt) in
      value_turned_back (sym (as_hash T s)) _ (ap (λ x. after x rest) (sym e ∙ q))

  -- they passed, and what is left is the test of the input x
  module _ (q : a ≡ Ok tt) {x : List ℕ} (f : x ≡ input_before T s) where
    left : {b : Bool} → ends_in_zeros x ≡ b → unhash_test T s ≡ unless b NoPair (Ok tt)
    left g =
        let i = hash_inputs T s (sym e ∙ q) in
        unhash_left T s i.table i.canonical
        ∙ ap (λ b. unless b NoPair (Ok tt)) (sym (ap ends_in_zeros f) ∙ g)

    pub unhash_none : ends_in_zeros x ≡ false → Err NoPair ≡ unhash_answer T s
    unfolding unhash_answer
    unhash_none g = value_turned_back (sym (left g)) _ refl

    -- the first eight cells are returned
    pub unhash_found : ends_in_zeros x ≡ true → Ok (eight_cells x) ≡ unhash_answer T s
    unfolding unhash_answer taps_before
    unhash_found g =
        value_returned (sym (left g)) refl
        (ap eight_cells f ∙ first_cells (input_before T s) (input_before_state T s).size)
