-- The table test: the product of M and the stored inverse, the first cell that is unlike the identity, and the answer
-- by cases.
-- Assumes nothing.
use Prim.Native.Nat.{ℕ, ◌+◌, ◌*◌, ◌-◌, ◌/◌, ◌%◌, ◌≤◌, ◌<◌}
use mathlib.Core.Path.{◌≡◌, refl, sym, ap, ap₂, ◌∙◌, subst}
use mathlib.Core.Bool.{Bool, true, false, not}
use mathlib.Core.List.{List}
use native.Mathlib.Nat.{mod-lt}
use native.Mathlib.Decide.{dec_lt, ℕ_discrete}
use native.Mathlib.Omega.{arith}
use borrow.Author.Tests.{eq-eqb, ne_eqb}
use lib.Dec.{eqb}
use lib.ListN.{length}
use Rattle.std.specs.Prelude.{Ok, Err}
use Rattle.lists.specs.Lists.{choose, cell, tab}
use Rattle.lists.proofs.Tab.{cell_tab}
use Rattle.lists.proofs.First.{IsFirst, is_first, first_none, found_at}
use Rattle.field.specs.Field.{P}
use Rattle.field.specs.MontgomeryHelpers.{unit_square}
use Rattle.field_words.specs.Words.{CanonicalTo, AllCanonical, first_bad}
use Rattle.matrix.specs.Matrix.{product, identity, entry, times_column}
use Rattle.matrix.proofs.Linear.{times_ext, product_column}
use Rattle.matrix_ready.specs.MixingHelpers.{ready_entry}
use Rattle.refusals.specs.declared.Refusal.TheVariants.{TableLength, TableWord, WrongInverse}
use Rattle.table.specs.Table.{table_words, matrix_of, inverse_of, unlike, first_unlike, table_test}
use Rattle.table.specs.ReadyHelpers.{ready_matrix, unlike_in_row, ready_left}
use Rattle.table.proofs.ReadyLaws.{product_scaled, unit_cancel, unit_diagonal}

-- ---- the product, column by column
pub column_canonical : (n x : List ℕ) (k : ℕ) → length n ≡ 144 → AllCanonical n → k < 12
    → x ≡ tab 12 (λ j. entry n j k) → CanonicalTo 12 x
column_canonical n x k size h hk e i l =
    rw (ap (λ s. cell s i) e ∙ cell_tab 12 (λ j. entry n j k) i l) (h (12 * i + k) (omega arith))

-- the cells of the matrix that was made ready times n, in the order in which they are computed
abbrev pub by_columns : List ℕ → List ℕ → ℕ → ℕ
by_columns r n t = product 12 (ready_entry r) (entry n) (t % 12) (t / 12)

pub next_cell : (r n c x : List ℕ) (k i : ℕ) → i < 12 → c ≡ tab 12 (λ j. entry n j k)
    → x ≡ tab 12 (times_column 12 (ready_entry r) (cell c)) → cell x i ≡ by_columns r n (12 * k + i)
next_cell r n c x k i h ec ex =
    ap (λ s. cell s i) ex
    ∙ cell_tab 12 (times_column 12 (ready_entry r) (cell c)) i h
    ∙ times_ext 12 (ready_entry r) (ready_entry r) (cell c) column i (λ j l. refl)
    (λ j l. ap (λ s. cell s j) ec ∙ cell_tab 12 column j l)
    ∙ sym (product_column 12 (ready_entry r) (entry n) i k)
    ∙ ap₂ (product 12 (ready_entry r) (entry n)) p q
  where
    column : ℕ → ℕ
    column j = entry n j k

    p : i ≡ (12 * k + i) % 12
    p = omega arith

    q : k ≡ (12 * k + i) / 12
    q = omega arith

-- cell c of M times n, row by row, times 2^128
pub at_cell : (t r n s : List ℕ) (c : ℕ) → r ≡ ready_matrix t → c < 144 → s ≡ tab 144 (by_columns r n)
    → cell s (12 * (c % 12) + c / 12) ≡ (product 12 (entry (matrix_of t)) (entry n) (c / 12) (c % 12) * unit_square) % P
at_cell t r n s c er h e =
    ap (λ l. cell l (12 * (c % 12) + c / 12)) e
    ∙ cell_tab 144 (by_columns r n) (12 * (c % 12) + c / 12) (omega arith)
    ∙ ap₂ (product 12 (ready_entry r) (entry n)) p q
    ∙ product_scaled t r er (entry n) (c / 12) (c % 12) (omega arith)
  where
    p : (12 * (c % 12) + c / 12) % 12 ≡ c / 12
    p = omega arith

    q : (12 * (c % 12) + c / 12) / 12 ≡ c % 12
    q = omega arith

identity_lt : (b : Bool) → choose b 1 0 < P
identity_lt true = omega arith
identity_lt false = omega arith

module _ (t : List ℕ) (c v d : ℕ)
    (value : v ≡ (product 12 (entry (matrix_of t)) (entry (inverse_of t)) (c / 12) (c % 12) * unit_square) % P)
    (wanted : d ≡ choose (eqb (c / 12) (c % 12)) unit_square 0) where
  found : ℕ
  found = product 12 (entry (matrix_of t)) (entry (inverse_of t)) (c / 12) (c % 12)

  same : d ≡ (identity (c / 12) (c % 12) * unit_square) % P
  same = wanted ∙ unit_diagonal (eqb (c / 12) (c % 12))

  pub unlike_yes : (v ≡ d → ⊥) → unlike t c ≡ true
  unfolding unlike found
  unlike_yes h =
      rw (ne_eqb found (identity (c / 12) (c % 12)) (λ e. h (value ∙ ap (λ x. (x * unit_square) % P) e ∙ sym same)))

  pub unlike_no : v ≡ d → unlike t c ≡ false
  unfolding unlike found product
  unlike_no h =
      rw (eq-eqb found (identity (c / 12) (c % 12))
      (unit_cancel found (identity (c / 12) (c % 12)) (mod-lt _ (omega arith))
      (identity_lt (eqb (c / 12) (c % 12))) (sym value ∙ h ∙ same)))

-- ---- the scan
pub stops : (t : List ℕ) (c : ℕ) → c < 144 → ((d : ℕ) → d < c → unlike t d ≡ false) → unlike t c ≡ true
    → c ≡ first_unlike t
unfolding first_unlike
stops t c h b y = found_at 144 (unlike t) c h b y

pub passes : (t : List ℕ) → ((d : ℕ) → d < 144 → unlike t d ≡ false) → first_unlike t ≡ 144
unfolding first_unlike
passes t b = sym (first_none 144 (unlike t) b)

-- and row by row: whether column k of row i is unlike the identity's, in the product s by columns
abbrev pub in_row : List ℕ → ℕ → ℕ → Bool
in_row s i k = not (eqb (cell s (12 * k + i)) (choose (eqb i k) unit_square 0))

pub unlike_within : (s : List ℕ) (i : ℕ) → unlike_in_row s i ≤ 12
unfolding unlike_in_row
unlike_within s i = (is_first 12 (in_row s i)).within

module _ (t r s : List ℕ) (er : r ≡ ready_matrix t) (es : s ≡ tab 144 (by_columns r (inverse_of t))) (i : ℕ)
    (hi : i < 12) where
  row_cell : (k : ℕ) → k < 12 → in_row s i k ≡ unlike t (12 * i + k)
  row_cell k hk = go (ℕ_discrete (cell s (12 * k + i)) (choose (eqb i k) unit_square 0))
    where
      c : ℕ
      c = 12 * i + k

      p : i ≡ c / 12
      p = omega arith

      q : k ≡ c % 12
      q = omega arith

      place : 12 * k + i ≡ 12 * (c % 12) + c / 12
      place = omega arith

      value : cell s (12 * k + i)
          ≡ (product 12 (entry (matrix_of t)) (entry (inverse_of t)) (c / 12) (c % 12) * unit_square) % P
      value = ap (cell s) place ∙ at_cell t r (inverse_of t) s c er (omega arith) es

      wanted : choose (eqb i k) unit_square 0 ≡ choose (eqb (c / 12) (c % 12)) unit_square 0
      wanted = ap₂ (λ a b. choose (eqb a b) unit_square 0) p q

      go : Dec (cell s (12 * k + i) ≡ choose (eqb i k) unit_square 0) → in_row s i k ≡ unlike t c
      go (yes e) = ap not (eq-eqb _ _ e) ∙ sym (unlike_no t c _ _ value wanted e)
      go (no n) = ap not (ne_eqb _ _ n) ∙ sym (unlike_yes t c _ _ value wanted n)

  -- k is the first column of row i in which it is, and the rows before are like the identity's
  module _ (before : (d : ℕ) → d < 12 * i → unlike t d ≡ false) (k : ℕ) (e : k ≡ unlike_in_row s i) where
    first_in : IsFirst 12 (in_row s i) k
    unfolding unlike_in_row
    first_in = subst (IsFirst 12 (in_row s i)) (sym e) (is_first 12 (in_row s i))

    passed : (d : ℕ) → d < 12 * i + k → unlike t d ≡ false
    passed d h = go (dec_lt d (12 * i))
      where
        go : Dec (d < 12 * i) → unlike t d ≡ false
        go (yes l) = before d l
        go (no l) =
            ap (unlike t) place
            ∙ sym (row_cell (d - 12 * i) (omega (arith, first_in.within)))
            ∙ first_in.before (d - 12 * i) (omega arith)
          where
            place : d ≡ 12 * i + (d - 12 * i)
            place = omega arith

    pub row_stops : (k ≡ 12 → ⊥) → 12 * i + k ≡ first_unlike t
    row_stops n =
        let h : k < 12 = omega (arith, first_in.within, n) in
        stops t (12 * i + k) (omega arith) passed (sym (row_cell k h) ∙ first_in.found h)

    pub row_passes : k ≡ 12 → (d : ℕ) → d < 12 * (i + 1) → unlike t d ≡ false
    row_passes z d h = passed d (omega arith)

-- ---- what is left in the room for M made ready
module _ (t old : List ℕ) where
  pub kept_at_1 : (length t ≡ table_words → ⊥) → old ≡ ready_left t old
  unfolding ready_left
  kept_at_1 h = sym (rw (ne_eqb (length t) table_words h))

  module _ (size : length t ≡ table_words) where
    pub kept_at_2 : (first_bad t ≡ table_words → ⊥) → old ≡ ready_left t old
    unfolding ready_left
    kept_at_2 h = sym (rw (eq-eqb (length t) table_words size, ne_eqb (first_bad t) table_words h))

    pub made_ready : first_bad t ≡ table_words → ready_matrix t ≡ ready_left t old
    unfolding ready_left
    made_ready good = sym (rw (eq-eqb (length t) table_words size, eq-eqb (first_bad t) table_words good))

-- ---- the answer
module _ (t : List ℕ) where
  pub wrong_length : (length t ≡ table_words → ⊥) → Err TableLength ≡ table_test t
  unfolding table_test
  wrong_length h = sym (rw (ne_eqb (length t) table_words h))

  module _ (size : length t ≡ table_words) where
    pub wrong_word : (b : ℕ) → b ≡ first_bad t → (b ≡ table_words → ⊥) → Err (TableWord b) ≡ table_test t
    unfolding table_test
    wrong_word b e h = rw (e, eq-eqb (length t) table_words size, ne_eqb (first_bad t) table_words (λ q. h (e ∙ q)))

    module _ (good : first_bad t ≡ table_words) where
      pub wrong_cell : (c : ℕ) → c ≡ first_unlike t → (c ≡ 144 → ⊥) → Err (WrongInverse c) ≡ table_test t
      unfolding table_test
      wrong_cell c e h =
          rw (
            e,
            eq-eqb (length t) table_words size,
            eq-eqb (first_bad t) table_words good,
            ne_eqb (first_unlike t) 144 (λ q. h (e ∙ q)),
          )

      pub accepted : first_unlike t ≡ 144 → (Ok tt) ≡ table_test t
      unfolding table_test
      accepted h =
          rw (eq-eqb (length t) table_words size, eq-eqb (first_bad t) table_words good, eq-eqb (first_unlike t) 144 h)
