-- Taps that are lent: 5, and 6 of their words.
-- Assumes nothing.
use mathlib.Core.Path.{◌≡◌}
use mathlib.Core.Bool.{false}
use mathlib.Core.List.{List}
use Prim.Native.Nat.{ℕ, ◌+◌, ◌*◌, ◌<◌}
use lib.ListN.{length}
use Rattle.field_words.specs.Words.{AllCanonical, first_bad, canonical_words}
use Rattle.field_words.proofs.Laws.{bad_test, good_test}
use Rattle.numbers.specs.Numbers.{IsPermittedTo, is_tap_length, tap_word_batches}
use Rattle.numbers.proofs.Laws.{tap_length_sound}
use Rattle.refusals.specs.declared.Refusal.{Refusal}
use Rattle.refusals.specs.declared.Refusal.TheVariants.{TapLength, TapWord}
use Rattle.refusals.specs.Answers.{Answer, unless}
use Rattle.refusals.proofs.Laws.{AnswerEnds, unless_ends}

-- of a list of such words, whatever follows
pub words_end : (Q : Refusal → Type 0) (words : List ℕ) → ((i : ℕ) → i < length words → Q (TapWord i)) → (rest : Answer)
    → (AllCanonical words → AnswerEnds Q rest)
    → AnswerEnds Q (unless (canonical_words words) (TapWord (first_bad words)) rest)
words_end Q words q6 rest r =
    unless_ends Q (canonical_words words) (TapWord (first_bad words)) rest
    (λ e. q6 (first_bad words) (bad_test words e)) λ e. r (good_test words e)

-- of a list of taps, which has the words of 3k + 1 of them: what is to be shown where its length is refused, most being
-- the most batches that are permitted, and where a word is
pub record TapsCauses (Q : Refusal → Type 0) (most : ℕ) (w : List ℕ) : Type 0 where
  pub by_length : is_tap_length most (length w) ≡ false → Q TapLength
  pub by_word : (k : ℕ) → length w ≡ 12 * k + 4 → IsPermittedTo most k → (i : ℕ) → i < length w → Q (TapWord i)

-- the length, and whatever follows
pub taps_end : (Q : Refusal → Type 0) (most : ℕ) (w : List ℕ) → TapsCauses Q most w → (rest : Answer)
    → (((i : ℕ) → i < length w → Q (TapWord i)) → AnswerEnds Q rest)
    → AnswerEnds Q (unless (is_tap_length most (length w)) TapLength rest)
taps_end Q most w causes rest n =
    unless_ends Q (is_tap_length most (length w)) TapLength rest causes.by_length λ e.
    let s = tap_length_sound most (length w) e in
    n (causes.by_word (tap_word_batches (length w)) s.0 s.1)
