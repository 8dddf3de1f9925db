-- The rows that are written from hash to hash are those of the section 3.1 trace: one hash's, and all of them.
-- Assumes nothing.
use mathlib.Core.Path.{◌≡◌, sym, ap, ap₂, ◌∙◌, subst}
use mathlib.Core.List.{List}
use Prim.Native.Nat.{ℕ, zero, suc, ◌+◌, ◌*◌, ◌-◌, ◌/◌, ◌%◌, ◌≤◌, ◌<◌}
use native.Mathlib.Decide.{ℕ_discrete}
use native.Mathlib.Omega.{arith}
use borrow.Author.Tests.{eq-eqb, ne_eqb}
use lib.ListN.{length, take}
use Rattle.lists.specs.Lists.{cell, tab}
use Rattle.numbers.specs.Numbers.{within, first_row}
use Rattle.hash.specs.Hash.{input, tap, output_at, middle_state, final_state}
use Rattle.trace.specs.Trace.{hash_input, trace_row, trace}
use Rattle.trace.specs.RowHelpers.{with_rows, rows_before, hash_row}
use Rattle.trace.proofs.RowKinds.{RowKind, start, middle, end, row_kind, row_start, row_middle, row_end}
use Rattle.trace.proofs.WrittenRows.{rows_none, rows_ext, rows_join, rows_all}

-- ---- where the rows of hash h stand: it is the first, second or third of batch b
pub data Place (h : ℕ) : Type 0 where
  first : (b : ℕ) → h ≡ 3 * b → rows_before h ≡ 32 * b → first_row h ≡ 32 * b + 1 → rows_before (h + 1) ≡ 32 * b + 11
      → Place h
  second : (b : ℕ) → h ≡ 3 * b + 1 → rows_before h ≡ 32 * b + 11 → first_row h ≡ 32 * b + 11
      → rows_before (h + 1) ≡ 32 * b + 21 → Place h
  third : (b : ℕ) → h ≡ 3 * b + 2 → rows_before h ≡ 32 * b + 21 → first_row h ≡ 32 * b + 21
      → rows_before (h + 1) ≡ 32 * b + 32 → Place h

pub place : (h : ℕ) → Place h
unfolding rows_before
place h = go (ℕ_discrete (h % 3) 0) (ℕ_discrete (h % 3) 1)
  where
    go : Dec (h % 3 ≡ 0) → Dec (h % 3 ≡ 1) → Place h
    go (yes e) d = first (h / 3) (omega arith) (omega arith) (omega arith) (omega arith)
    go (no n) (yes e) = second (h / 3) (omega arith) (omega arith) (omega arith) (omega arith)
    go (no n) (no m) = third (h / 3) (omega arith) (omega arith) (omega arith) (omega arith)

-- a hash has its ten middle states, after its input and before its final state where it has rows for them
pub record Ranges (h : ℕ) : Type 0 where
  pub input_first : rows_before h ≤ first_row h
  pub final_last : first_row h + 10 ≤ rows_before (h + 1)
  pub input_row : (i : ℕ) → rows_before h ≤ i → i < first_row h → within i ≡ 0
  pub final_row : (i : ℕ) → first_row h + 10 ≤ i → i < rows_before (h + 1) → within i ≡ 31

pub ranges : (h : ℕ) → Ranges h
ranges h = go (place h)
  where
    go : Place h → Ranges h
    go (first b e p q r) =
        record {
          input_first = omega arith;
          final_last = omega arith;
          input_row = λ i l g. omega arith;
          final_row = λ i l g. absurd (omega arith);
        }
    go (second b e p q r) =
        record {
          input_first = omega arith;
          final_last = omega arith;
          input_row = λ i l g. absurd (omega arith);
          final_row = λ i l g. absurd (omega arith);
        }
    go (third b e p q r) =
        record {
          input_first = omega arith;
          final_last = omega arith;
          input_row = λ i l g. absurd (omega arith);
          final_row = λ i l g. omega arith;
        }

-- later hashes fill later rows, and the 3k hashes those of k batches
before_more : (g d : ℕ) → rows_before g ≤ rows_before (g + d)
before_more g zero =
    let e : g + 0 ≡ g = omega arith in
    rw e (omega arith)
before_more g (suc d) =
    let e : g + suc d ≡ g + d + 1 = omega arith in
    rw e (omega (arith, before_more g d, (ranges (g + d)).input_first, (ranges (g + d)).final_last))

pub before_monotone : (g h : ℕ) → g ≤ h → rows_before g ≤ rows_before h
before_monotone g h l =
    let e : g + (h - g) ≡ h = omega arith in
    subst (λ n. rows_before g ≤ rows_before n) e (before_more g (h - g))

pub all_before : (k : ℕ) → rows_before (3 * k) ≡ 32 * k
unfolding rows_before
all_before k = omega arith

pub before_within : (k h : ℕ) → h ≤ 3 * k → rows_before h ≤ 32 * k
before_within k h l = omega (arith, before_monotone h (3 * k) l, all_before k)

-- ---- the rows that a hash fills from its input s
module _ (T s : List ℕ) where
  hash_row_start : (i : ℕ) → within i ≡ 0 → hash_row T s i ≡ s
  unfolding hash_row
  hash_row_start i e = rw (eq-eqb (within i) 0 e)

  hash_row_end : (i : ℕ) → within i ≡ 31 → hash_row T s i ≡ final_state T s
  unfolding hash_row
  hash_row_end i e = rw (ne_eqb (within i) 0 (λ z. omega arith), eq-eqb (within i) 31 e)

  hash_row_middle : (b e j i : ℕ) → e < 3 → j < 10 → i ≡ 32 * b + (10 * e + 1 + j) → hash_row T s i ≡ middle_state T s j
  unfolding hash_row
  hash_row_middle b e j i p q f =
      let w : within i ≡ 10 * e + 1 + j = omega arith in
      let u : (10 * e + 1 + j - 1) % 10 ≡ j = omega arith in
      rw (w, ne_eqb (10 * e + 1 + j) 0 (λ z. omega arith), ne_eqb (10 * e + 1 + j) 31 (λ z. omega arith), u)

  module _ (h : ℕ) where
    middles : (i : ℕ) → first_row h ≤ i → i < first_row h + 10 → middle_state T s (i - first_row h) ≡ hash_row T s i
    middles i p q = sym (hash_row_middle (h / 3) (h % 3) (i - first_row h) i (omega arith) (omega arith) (omega arith))

    -- the input, the middle states and the final state, one after the other
    pub hash_rows : (final d₀ d₁ d₂ d₃ : List ℕ) (r : ℕ) → 12 * rows_before (h + 1) ≤ length d₀ →
        d₁ ≡ with_rows (λ i. s) (rows_before h) (first_row h) d₀ →
        r ≡ first_row h →
        d₂ ≡ with_rows (λ i. middle_state T s (i - r)) r (r + 10) d₁ →
        final ≡ final_state T s →
        d₃ ≡ with_rows (λ i. final) (first_row h + 10) (rows_before (h + 1)) d₂ →
        d₃ ≡ with_rows (hash_row T s) (rows_before h) (rows_before (h + 1)) d₀
    hash_rows final d₀ d₁ d₂ d₃ r room p₁ q p₂ e p₃ =
        p₃
        ∙ rows_ext _ (hash_row T s) _ _ d₂ (λ i l g. e ∙ sym (hash_row_end i (at.final_row i l g)))
        ∙ ap (with_rows (hash_row T s) (first_row h + 10) (rows_before (h + 1))) to₂
        ∙ rows_join (hash_row T s) (rows_before h) (first_row h + 10) d₀ (omega (arith, at.input_first))
        (omega (arith, at.final_last)) (rows_before (h + 1)) at.final_last
      where
        at : Ranges h
        at = ranges h

        to₁ : d₁ ≡ with_rows (hash_row T s) (rows_before h) (first_row h) d₀
        to₁ = p₁ ∙ rows_ext _ (hash_row T s) _ _ d₀ (λ i l g. sym (hash_row_start i (at.input_row i l g)))

        to₂ : d₂ ≡ with_rows (hash_row T s) (rows_before h) (first_row h + 10) d₀
        to₂ =
            p₂
            ∙ ap (λ n. with_rows (λ i. middle_state T s (i - n)) n (n + 10) d₁) q
            ∙ rows_ext _ (hash_row T s) _ _ d₁ middles
            ∙ ap (with_rows (hash_row T s) (first_row h) (first_row h + 10)) to₁
            ∙ rows_join (hash_row T s) (rows_before h) (first_row h) d₀ at.input_first
            (omega (arith, at.final_last)) (first_row h + 10) (omega arith)

pub third_ends : (h : ℕ) → h % 3 ≡ 2 → rows_before (h + 1) ≡ 32 * (h / 3) + 32
unfolding rows_before
third_ends h e = omega arith

-- ---- the row of its input and that of its final state, where it has one, and where it has none
module _ (f : ℕ → List ℕ) (h : ℕ) (d : List ℕ) where
  nothing : (a b : ℕ) → a ≡ b → d ≡ with_rows f a b d
  nothing a b e = sym (ap (λ n. with_rows f a n d) (sym e) ∙ rows_none f a d)

  pub no_input_row : (h % 3 ≡ 0 → ⊥) → d ≡ with_rows f (rows_before h) (first_row h) d
  unfolding rows_before
  no_input_row n = nothing (rows_before h) (first_row h) (omega arith)

  pub no_final_row : (h % 3 ≡ 2 → ⊥) → d ≡ with_rows f (first_row h + 10) (rows_before (h + 1)) d
  unfolding rows_before
  no_final_row n = nothing (first_row h + 10) (rows_before (h + 1)) (omega arith)

  module _ (r : ℕ) {new : List ℕ} (written : new ≡ with_rows f r (r + 1) d) where
    just : (a b : ℕ) → r ≡ a → r + 1 ≡ b → new ≡ with_rows f a b d
    just a b p q = written ∙ ap₂ (λ x y. with_rows f x y d) p q

    pub an_input_row : h % 3 ≡ 0 → r ≡ 32 * (h / 3) + 0 → new ≡ with_rows f (rows_before h) (first_row h) d
    unfolding rows_before
    an_input_row e p = just (rows_before h) (first_row h) (omega arith) (omega arith)

    pub a_final_row : h % 3 ≡ 2 → r ≡ 32 * (h / 3) + 31 → new ≡ with_rows f (first_row h + 10) (rows_before (h + 1)) d
    unfolding rows_before
    a_final_row e p = just (first_row h + 10) (rows_before (h + 1)) (omega arith) (omega arith)

module _ (T w : List ℕ) where
  -- the rows of hash h of the chain are the trace's
  hash_row_lem : (h i : ℕ) → rows_before h ≤ i → i < rows_before (h + 1) → hash_row T (hash_input T w h) i ≡ trace_row T w i
  hash_row_lem h i p q = go (row_kind i) (place h)
    where
      from_start : (b : ℕ) → i ≡ 32 * b → h ≡ 3 * b → hash_row T (hash_input T w h) i ≡ trace_row T w i
      from_start b e x =
          hash_row_start T _ i (omega arith) ∙ ap (hash_input T w) x ∙ sym (row_start T w b) ∙ ap (trace_row T w) (sym e)

      from_end : (b : ℕ) → i ≡ 32 * b + 31 → h ≡ 3 * b + 2 → hash_row T (hash_input T w h) i ≡ trace_row T w i
      from_end b e x =
          hash_row_end T _ i (omega arith)
          ∙ ap (λ n. final_state T (hash_input T w n)) x
          ∙ sym (row_end T w b)
          ∙ ap (trace_row T w) (sym e)

      from_middle : (g j : ℕ) → j < 10 → i ≡ first_row g + j → h ≡ g → hash_row T (hash_input T w h) i ≡ trace_row T w i
      from_middle g j l e x =
          hash_row_middle T _ (g / 3) (g % 3) j i (omega arith) l (omega arith)
          ∙ ap (λ n. middle_state T (hash_input T w n) j) x
          ∙ sym (row_middle T w g j l)
          ∙ ap (trace_row T w) (sym e)

      same_hash : (g j : ℕ) → j < 10 → i ≡ first_row g + j → Place h → Place g → h ≡ g
      same_hash g j l e (first b x p₁ q₁ r₁) (first c y p₂ q₂ r₂) = omega arith
      same_hash g j l e (first b x p₁ q₁ r₁) (second c y p₂ q₂ r₂) = omega arith
      same_hash g j l e (first b x p₁ q₁ r₁) (third c y p₂ q₂ r₂) = omega arith
      same_hash g j l e (second b x p₁ q₁ r₁) (first c y p₂ q₂ r₂) = omega arith
      same_hash g j l e (second b x p₁ q₁ r₁) (second c y p₂ q₂ r₂) = omega arith
      same_hash g j l e (second b x p₁ q₁ r₁) (third c y p₂ q₂ r₂) = omega arith
      same_hash g j l e (third b x p₁ q₁ r₁) (first c y p₂ q₂ r₂) = omega arith
      same_hash g j l e (third b x p₁ q₁ r₁) (second c y p₂ q₂ r₂) = omega arith
      same_hash g j l e (third b x p₁ q₁ r₁) (third c y p₂ q₂ r₂) = omega arith

      go : RowKind i → Place h → hash_row T (hash_input T w h) i ≡ trace_row T w i
      go (start b e) (first c x p₁ q₁ r₁) = from_start b e (omega arith)
      go (start b e) (second c x p₁ q₁ r₁) = absurd (omega arith)
      go (start b e) (third c x p₁ q₁ r₁) = absurd (omega arith)
      go (middle g j l e) at = from_middle g j l e (same_hash g j l e at (place g))
      go (end b e) (first c x p₁ q₁ r₁) = absurd (omega arith)
      go (end b e) (second c x p₁ q₁ r₁) = absurd (omega arith)
      go (end b e) (third c x p₁ q₁ r₁) = from_end b e (omega arith)

  -- the input that the code makes is that of hash h
  pub is_input : (h : ℕ) (last s : List ℕ) → take 4 last ≡ output_at T w h → s ≡ input (take 4 last) (tap w (h + 1))
      → s ≡ hash_input T w h
  unfolding hash_input
  is_input h last s e q = q ∙ ap (λ a. input a (tap w (h + 1))) e

  -- one hash more, after the rows from a on; and all of them
  pub more_rows : (a h : ℕ) (s d₀ d₁ d₂ : List ℕ) → a ≤ rows_before h → 12 * rows_before (h + 1) ≤ length d₀
      → s ≡ hash_input T w h
      → d₁ ≡ with_rows (trace_row T w) a (rows_before h) d₀
      → d₂ ≡ with_rows (hash_row T s) (rows_before h) (rows_before (h + 1)) d₁
      → d₂ ≡ with_rows (trace_row T w) a (rows_before (h + 1)) d₀
  more_rows a h s d₀ d₁ d₂ l room e p q =
      let one_more = before_monotone h (h + 1) (omega arith) in
      q
      ∙ ap (λ x. with_rows (hash_row T x) (rows_before h) (rows_before (h + 1)) d₁) e
      ∙ rows_ext _ (trace_row T w) _ _ d₁ (hash_row_lem h)
      ∙ ap (with_rows (trace_row T w) (rows_before h) (rows_before (h + 1))) p
      ∙ rows_join (trace_row T w) a (rows_before h) d₀ l (omega arith) (rows_before (h + 1)) one_more

  pub all_rows : (k : ℕ) (d : List ℕ) → length d ≡ 384 * k → with_rows (trace_row T w) 0 (32 * k) d ≡ trace T w k
  unfolding trace
  all_rows k d e =
      let n : 12 * (32 * k) ≡ 384 * k = omega arith in
      rows_all (trace_row T w) (32 * k) d (omega arith) ∙ ap (λ m. tab m (λ i. cell (trace_row T w (i / 12)) (i % 12))) n
