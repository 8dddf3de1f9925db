-- The prepared table: its words and parts, the tests of Prepare by cases, and that it is a table.
-- Assumes nothing.
use Prim.Native.Nat.{ℕ, ◌+◌, ◌-◌, ◌≤◌, ◌<◌}
use mathlib.Core.Path.{◌≡◌, sym, ap, ◌∙◌, subst}
use mathlib.Core.List.{List, ◌++◌}
use native.Mathlib.Decide.{dec_lt}
use native.Mathlib.Omega.{arith}
use borrow.Author.Tests.{eq-eqb, ne_eqb}
use lib.ListN.{length, take, drop, length-append, length-drop, get_or-append}
use lib.Seq.{length-take-le, get_or-take, get_or-drop, get_or-append-add, take_at, drop_at}
use Rattle.std.specs.Prelude.{Ok, Err}
use Rattle.lists.specs.Lists.{cell}
use Rattle.field.specs.Field.{P, Canonical}
use Rattle.field_words.specs.Words.{AllCanonical, first_bad}
use Rattle.refusals.specs.declared.Refusal.TheVariants.{TableLength, TableWord, DestinationLength}
use Rattle.table.specs.Table.{raw_words, table_words, raw_matrix, matrix_of, inverse_of, RawInverse}
use Rattle.table.specs.Table.{prepared, raw_test, Prepares, accepts}

-- ---- its words
module _ (raw n : List ℕ) (size : length raw ≡ raw_words) (size-n : length n ≡ 144) where
  length_left : length (raw_matrix raw) ≡ 144
  length_left = length-take-le 144 raw (omega arith)

  pub length_prepared : length (prepared raw n) ≡ table_words
  length_prepared =
      length-append (raw_matrix raw) (n ++ drop 144 raw)
      ∙ omega (arith, length_left, length-append n (drop 144 raw), length-drop 144 raw)

  pub word_matrix : (t : ℕ) → t < 144 → cell raw t ≡ cell (prepared raw n) t
  word_matrix t h =
      sym
      (get_or-append (raw_matrix raw) (n ++ drop 144 raw) 0 t (omega (arith, length_left)) ∙ get_or-take 144 raw t 0 h)

  after : (t u : ℕ) → t ≡ 144 + u → cell (prepared raw n) t ≡ cell (n ++ drop 144 raw) u
  after t u e = ap (cell (prepared raw n)) place ∙ get_or-append-add (raw_matrix raw) (n ++ drop 144 raw) u 0
    where
      place : t ≡ length (raw_matrix raw) + u
      place = omega (arith, length_left)

  pub word_inverse : (t u : ℕ) → t ≡ 144 + u → u < 144 → cell n u ≡ cell (prepared raw n) t
  word_inverse t u e h = sym (after t u e ∙ get_or-append n (drop 144 raw) 0 u (omega arith))

  pub word_constant : (t u : ℕ) → t ≡ 144 + u → 144 ≤ u → cell raw u ≡ cell (prepared raw n) t
  word_constant t u e h =
      sym (after t u e
      ∙ ap (cell (n ++ drop 144 raw)) place
      ∙ get_or-append-add n (drop 144 raw) (u - 144) 0
      ∙ get_or-drop 144 raw (u - 144) 0
      ∙ ap (cell raw) back)
    where
      place : u ≡ length n + (u - 144)
      place = omega arith

      back : 144 + (u - 144) ≡ u
      back = omega arith

  -- ---- its parts
  pub matrix_prepared : matrix_of (prepared raw n) ≡ raw_matrix raw
  unfolding matrix_of
  matrix_prepared = take_at (raw_matrix raw) (n ++ drop 144 raw) 144 length_left

  pub inverse_prepared : inverse_of (prepared raw n) ≡ n
  unfolding inverse_of
  inverse_prepared =
      ap (take 144) (drop_at (raw_matrix raw) (n ++ drop 144 raw) 144 length_left) ∙ take_at n (drop 144 raw) 144 size-n

  pub prepared_canonical : AllCanonical raw → AllCanonical n → AllCanonical (prepared raw n)
  prepared_canonical hr hn t l = left (dec_lt t 144)
    where
      t_lt : t < table_words
      t_lt = omega (arith, length_prepared)

      right : 144 ≤ t → Dec (t < 288) → Canonical (cell (prepared raw n) t)
      right g (yes h) =
          subst (λ y. y < P) (word_inverse t (t - 144) (omega arith) (omega arith)) (hn (t - 144) (omega arith))
      right g (no h) =
          subst (λ y. y < P) (word_constant t (t - 144) (omega arith) (omega arith))
          (hr (t - 144) (omega (arith, t_lt)))

      left : Dec (t < 144) → Canonical (cell (prepared raw n) t)
      left (yes h) = subst (λ y. y < P) (word_matrix t h) (hr t (omega arith))
      left (no h) = right (omega arith) (dec_lt t 288)

-- ---- the tests of Prepare
module _ (raw : List ℕ) (room : ℕ) where
  pub wrong_length : (length raw ≡ raw_words → ⊥) → raw_test raw room ≡ Err TableLength
  unfolding raw_test
  wrong_length h = rw (ne_eqb (length raw) raw_words h)

  module _ (size : length raw ≡ raw_words) where
    pub wrong_room : (room ≡ table_words → ⊥) → raw_test raw room ≡ Err DestinationLength
    unfolding raw_test
    wrong_room h = rw (eq-eqb (length raw) raw_words size, ne_eqb room table_words h)

    module _ (fits : room ≡ table_words) where
      pub wrong_word : (b : ℕ) → b ≡ first_bad raw → (b ≡ raw_words → ⊥) → raw_test raw room ≡ Err (TableWord b)
      unfolding raw_test
      wrong_word b e h =
          rw (
            e,
            eq-eqb (length raw) raw_words size,
            eq-eqb room table_words fits,
            ne_eqb (first_bad raw) raw_words (λ q. h (e ∙ q)),
          )

      pub raw_accepted : first_bad raw ≡ raw_words → raw_test raw room ≡ Ok tt
      unfolding raw_test
      raw_accepted h =
          rw (eq-eqb (length raw) raw_words size, eq-eqb room table_words fits, eq-eqb (first_bad raw) raw_words h)

-- ---- the answer, after the tests
module _ (raw old : List ℕ) (tested : raw_test raw (length old) ≡ Ok tt) where
  pub written : (n new : List ℕ) → RawInverse raw n → new ≡ prepared raw n → Prepares raw old (Ok tt) new
  written n new h e = subst (λ s. Prepares raw old (Ok tt) s) (sym e) (accepts n tested h)
