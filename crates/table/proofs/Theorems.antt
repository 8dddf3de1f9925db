-- What the table test promises (document 01, "The table"): each answer says what is wrong, and where.
-- Assumes nothing.
use Prim.Native.Nat.{ℕ, ◌+◌, ◌*◌, ◌/◌, ◌%◌, ◌<◌}
use mathlib.Core.Path.{◌≡◌, refl, sym, ap₂, ◌∙◌, subst}
use mathlib.Core.Bool.{false}
use mathlib.Core.List.{List}
use native.Mathlib.Decide.{ℕ_discrete}
use native.Mathlib.Omega.{arith}
use borrow.Author.Tests.{eq-eqb, ne_eqb, eqb-true, eqb-false, not-true, not-false}
use lib.ListN.{length}
use Rattle.std.specs.Prelude.{Ok, Err}
use Rattle.lists.specs.Lists.{cell, first}
use Rattle.lists.proofs.First.{IsFirst, is_first, none_first, found_at}
use Rattle.field.specs.Field.{Canonical}
use Rattle.field_words.specs.Words.{AllCanonical, first_bad, IsFirstBad}
use Rattle.field_words.proofs.Laws.{within, first_bad_lem, all_good, good_all}
use Rattle.matrix.specs.Matrix.{product, identity, Inverse, entry, times}
use Rattle.matrix.proofs.States.{times_undo, times_redo}
use Rattle.matrix_ready.specs.MixingHelpers.{ready_words}
use Rattle.refusals.specs.declared.Refusal.TheVariants.{TableLength, TableWord, WrongInverse}
use Rattle.table.specs.Table.{table_words, matrix_of, inverse_of, initial_constant}
use Rattle.table.specs.Table.{first_step_constant, second_step_constant, unlike, first_unlike, table_test, IsTable}
use Rattle.table.specs.Table.{IsFirstUnlike}
use Rattle.table.specs.ReadyHelpers.{ready_matrix, ready_left}
use Rattle.table.proofs.Parts as parts
use Rattle.table.proofs.ReadyLaws.{ready_is}
use Rattle.table.proofs.Tested as tested
use Rattle.refusals.specs.Answers.{Answer}
use Rattle.refusals.proofs.Laws.{not_accepted}

-- ---- the table test accepts exactly the tables: all words canonical, and M times the stored inverse the identity
like_identity : (t : List ℕ) → first_unlike t ≡ 144 → Inverse 12 (entry (matrix_of t)) (entry (inverse_of t))
unfolding first_unlike unlike Inverse
like_identity t e i k hi hk =
    sym (ap₂ value p q)
    ∙ eqb-true _ _ (not-false _ (none_first 144 (unlike t) e (12 * i + k) (omega arith)))
    ∙ ap₂ identity p q
  where
    value : ℕ → ℕ → ℕ
    value = product 12 (entry (matrix_of t)) (entry (inverse_of t))

    p : (12 * i + k) / 12 ≡ i
    p = omega arith

    q : (12 * i + k) % 12 ≡ k
    q = omega arith

identity_like : (t : List ℕ) → Inverse 12 (entry (matrix_of t)) (entry (inverse_of t)) → (c : ℕ) → c < 144
    → unlike t c ≡ false
unfolding unlike Inverse
identity_like t h c l = rw (eq-eqb _ _ (h (c / 12) (c % 12) (omega arith) (omega arith)))

pub test_complete : (t : List ℕ) → IsTable t → table_test t ≡ Ok tt
test_complete t h =
    sym
    (tested.accepted t h.size (all_good t h.canonical ∙ h.size) (tested.passes t (identity_like t h.inverse)))

-- and leaves M of an accepted one made ready
pub ready_left_lem : (t old : List ℕ) {r : List ℕ} → IsTable t → r ≡ ready_left t old → r ≡ ready_matrix t
ready_left_lem t old h e = e ∙ sym (tested.made_ready t old h.size (all_good t h.canonical ∙ h.size))

pub left_size : (t old : List ℕ) {r : List ℕ} → IsTable t → r ≡ ready_left t old → length r ≡ ready_words
left_size t old {r} h e = (ready_is t r (ready_left_lem t old h e)).size

-- ---- the places of its refusals

-- the answer of the test, by cases
pub data Answers (t : List ℕ) : Answer → Type 0 where
  accepted : IsTable t → Answers t (Ok tt)
  length_refused : (length t ≡ table_words → ⊥) → Answers t (Err TableLength)
  word_refused : (i : ℕ) → length t ≡ table_words → IsFirstBad t i → Answers t (Err (TableWord i))
  cell_refused : (c : ℕ) → length t ≡ table_words → AllCanonical t → IsFirstUnlike t c
      → Answers t (Err (WrongInverse c))

pub first_cell : (t : List ℕ) → (first_unlike t ≡ 144 → ⊥) → IsFirstUnlike t (first_unlike t)
unfolding first_unlike unlike
first_cell t u =
    record {
      within = below;
      other = eqb-false _ _ (not-true _ (first_is.found below));
      before = λ d l. eqb-true _ _ (not-false _ (first_is.before d l));
    }
  where
    first_is : IsFirst 144 (unlike t) (first 144 (unlike t))
    first_is = is_first 144 (unlike t)

    below : first 144 (unlike t) < 144
    below = omega (arith, first_is.within)

-- it is the one that is found
pub only_first_cell : (t : List ℕ) (c : ℕ) → IsFirstUnlike t c → c ≡ first_unlike t
unfolding first_unlike unlike
only_first_cell t c h =
    found_at 144 (unlike t) c h.within (λ d l. rw (eq-eqb _ _ (h.before d l))) (rw (ne_eqb _ _ h.other))

pub test_answers : (t : List ℕ) → Answers t (table_test t)
test_answers t = with_size (ℕ_discrete (length t) table_words)
  where
    with_cells : (size : length t ≡ table_words) → first_bad t ≡ table_words → Dec (first_unlike t ≡ 144)
        → Answers t (table_test t)
    with_cells size good (yes u) =
        subst (Answers t) (tested.accepted t size good u)
        (accepted (record { size = size; canonical = good_all t (good ∙ sym size); inverse = like_identity t u }))
    with_cells size good (no u) =
        subst (Answers t) (tested.wrong_cell t size good _ refl u)
        (cell_refused _ size (good_all t (good ∙ sym size)) (first_cell t u))

    with_words : (size : length t ≡ table_words) → Dec (first_bad t ≡ table_words) → Answers t (table_test t)
    with_words size (yes b) = with_cells size b (ℕ_discrete (first_unlike t) 144)
    with_words size (no b) =
        subst (Answers t) (tested.wrong_word t size _ refl b)
        (word_refused _ size (first_bad_lem t (omega (arith, within t))))

    with_size : Dec (length t ≡ table_words) → Answers t (table_test t)
    with_size (yes s) = with_words s (ℕ_discrete (first_bad t) table_words)
    with_size (no s) = subst (Answers t) (tested.wrong_length t s) (length_refused s)

pub test_sound : (t : List ℕ) → table_test t ≡ Ok tt → IsTable t
test_sound t = go (table_test t) (test_answers t)
  where
    go : (a : Answer) → Answers t a → a ≡ Ok tt → IsTable t
    go a (accepted h) e = h
    go a (length_refused h) e = absurd (not_accepted _ e)
    go a (word_refused i s h) e = absurd (not_accepted _ e)
    go a (cell_refused c s w h) e = absurd (not_accepted _ e)

-- ---- what an accepted table holds
module _ (t : List ℕ) (h : IsTable t) where
  pub inverse_length : length (inverse_of t) ≡ 144
  inverse_length = parts.length_inverse t h.size

  pub inverse_canonical : AllCanonical (inverse_of t)
  inverse_canonical = parts.inverse_canonical t h.size h.canonical

  -- twelve canonical words for each constant
  pub initial_length : length (initial_constant t) ≡ 12
  unfolding initial_constant
  initial_length = parts.length_constant t h.size 0 (omega arith)

  pub initial_canonical : AllCanonical (initial_constant t)
  unfolding initial_constant
  initial_canonical = parts.constant_canonical t h.size h.canonical 0 (omega arith)

  pub first_step_length : (r : ℕ) → r < 10 → length (first_step_constant t r) ≡ 12
  unfolding first_step_constant
  first_step_length r l = parts.length_constant t h.size (2 * r + 1) (omega arith)

  pub first_step_canonical : (r : ℕ) → r < 10 → AllCanonical (first_step_constant t r)
  unfolding first_step_constant
  first_step_canonical r l = parts.constant_canonical t h.size h.canonical (2 * r + 1) (omega arith)

  pub second_step_length : (r : ℕ) → r < 10 → length (second_step_constant t r) ≡ 12
  unfolding second_step_constant
  second_step_length r l = parts.length_constant t h.size (2 * r + 2) (omega arith)

  pub second_step_canonical : (r : ℕ) → r < 10 → AllCanonical (second_step_constant t r)
  unfolding second_step_constant
  second_step_canonical r l = parts.constant_canonical t h.size h.canonical (2 * r + 2) (omega arith)

  pub mix_undo : (s : List ℕ) → length s ≡ 12 → ((i : ℕ) → i < 12 → Canonical (cell s i))
      → times (matrix_of t) (times (inverse_of t) s) ≡ s
  mix_undo = times_undo (matrix_of t) (inverse_of t) h.inverse

  pub undo_mix : (s : List ℕ) → length s ≡ 12 → ((i : ℕ) → i < 12 → Canonical (cell s i))
      → times (inverse_of t) (times (matrix_of t) s) ≡ s
  undo_mix = times_redo (matrix_of t) (inverse_of t) h.inverse
