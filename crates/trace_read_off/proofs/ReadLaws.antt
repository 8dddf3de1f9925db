-- What is read of a trace: the input of a hash by its row, the words of a tap by that input, and all taps as a list
-- that is filled four words at a time.
-- Assumes nothing.
use mathlib.Core.Path.{◌≡◌, refl, sym, ap, ap₂, ◌∙◌, subst}
use mathlib.Core.List.{List, [], ◌∷◌, ◌++◌, append_assoc}
use Prim.Native.Nat.{ℕ, ◌+◌, ◌*◌, ◌-◌, ◌/◌, ◌%◌, ◌≤◌, ◌<◌}
use native.Mathlib.Omega.{arith}
use borrow.Author.Tests.{lt-ltb, le-ltb, eq-eqb, ne_eqb}
use borrow.Rule.Slice.PartMut.{put_mid, post_of, Post-is}
use lib.ListN.{length, take, drop}
use lib.Seq.{take_at, drop-append-add, drop-drop}
use Rattle.lists.specs.Lists.{cell, tab}
use Rattle.lists.proofs.Tab.{length_tab, tab_ext, tab_add, filled, filled_all}
use Rattle.field.specs.Field.{Canonical}
use Rattle.field_words.specs.Words.{CanonicalTo}
use Rattle.table.specs.Table.{initial_constant}
use Rattle.hash.proofs.States.{state_cell}
use Rattle.trace.specs.Trace.{row}
use Rattle.check_constraints.specs.Constraints.{round, minus, back}
use Rattle.numbers.specs.Numbers.{first_row}
use Rattle.check_constraints.specs.ReadOff.{read_input, read_word, read_taps}
use Rattle.check_constraints.proofs.OneRound.{back_step_state}
use Rattle.trace_rows.specs.RowHelpers.{HasRow}
use Rattle.trace_read_off.specs.TapHelpers.{HasTap}

-- ---- the rows that are read are there
pub input_row : {t : List ℕ} (h i : ℕ) → HasTap t (h + 1) → i ≤ 32 * (h / 3) + 31 → HasRow t i
input_row h i p b = record {
  canonical = p.canonical;
  inside = omega (arith, p.size, p.inside);
  small = omega (arith, p.few, p.inside);
}

pub first_row_lem : {t : List ℕ} {i : ℕ} → HasTap t i → HasRow t 0
first_row_lem p = record { canonical = p.canonical; inside = omega (arith, p.size, p.some); small = omega arith }

-- ---- the input of hash h
module _ (T t : List ℕ) (h i : ℕ) where
  pub row_read : h % 3 ≡ 0 → i ≡ 32 * (h / 3) + 0 → {s : List ℕ} → s ≡ row t i → s ≡ read_input T t h
  unfolding read_input
  row_read z e q =
      let n : i ≡ 32 * (h / 3) = omega arith in
      rw (eq-eqb (h % 3) 0 z) (q ∙ ap (row t) n)

  pub back_read : (h % 3 ≡ 0 → ⊥) → i ≡ first_row h → {b s : List ℕ} → b ≡ back T t i
      → s ≡ minus b (initial_constant T) → s ≡ read_input T t h
  unfolding read_input
  back_read z e q f =
      rw (ne_eqb (h % 3) 0 z) (f ∙ ap (λ x. minus x (initial_constant T)) (q ∙ ap (back T t) e))

pub back_canonical : (T t : List ℕ) (i : ℕ) {b : List ℕ} → b ≡ back T t i → CanonicalTo 12 b
unfolding back
back_canonical T t i e j l =
    subst (λ x. Canonical (cell x j)) (sym e) (state_cell (back_step_state T (round i) (row t i)) j)

-- ---- the words of tap i
pub four : (f : ℕ → ℕ) {a b c d : ℕ} → a ≡ f 0 → b ≡ f 1 → c ≡ f 2 → d ≡ f 3 → (a ∷ b ∷ c ∷ d ∷ []) ≡ tab 4 f
unfolding tab
four f p q r s = ap₂ ◌∷◌ p (ap₂ ◌∷◌ q (ap₂ ◌∷◌ r (ap₂ ◌∷◌ s refl)))

module _ (T t : List ℕ) (i j : ℕ) (l : j < 4) where
  pub first_word : i ≡ 0 → {s : List ℕ} → s ≡ row t 0 → cell s j ≡ read_word T t (4 * i + j)
  unfolding read_word
  first_word z q =
      let e : 4 * i + j ≡ j = omega arith in
      rw (e, lt-ltb j 4 l) (ap (λ x. cell x j) q)

  pub next_word_lem : 1 ≤ i → {h : ℕ} → h ≡ i - 1 → {s : List ℕ} → s ≡ read_input T t h
      → cell s (4 + j) ≡ read_word T t (4 * i + j)
  unfolding read_word
  next_word_lem p f e =
      let q : (4 * i + j) / 4 - 1 ≡ i - 1 = omega arith in
      let r : (4 * i + j) % 4 ≡ j = omega arith in
      rw (le-ltb (4 * i + j) 4 (omega arith), q, r) (ap (λ x. cell x (4 + j)) (e ∙ ap (read_input T t) f))

-- ---- four words written behind those that are there
pub four_more : (f : ℕ → ℕ) (i at : ℕ) (s l : List ℕ) {w : List ℕ} → at ≡ 4 * i → at + 4 ≤ length s
    → w ≡ tab 4 (λ j. f (4 * i + j)) → l ≡ filled (4 * i) f s → put_mid at (at + 4 - at) l w ≡ filled (4 * (i + 1)) f s
unfolding filled
four_more f i at s l {w} q h e p =
    ap (λ x. put_mid at (at + 4 - at) x w) held
    ∙ sym (append_assoc (take at there) w (post_of at (at + 4 - at) there))
    ∙ ap₂ (λ x y. x ++ w ++ y) (take_at (tab at f) (drop at s) at (length_tab at f))
    (Post-is at (at + 4) there (omega arith) ∙ behind)
    ∙ ap (λ x. tab at f ++ x ++ drop (at + 4) s) (e ∙ tab_ext 4 _ _ (λ j b. ap (λ n. f (n + j)) (sym q)))
    ∙ ap (λ x. x ++ drop (at + 4) s) (sym (tab_add at 4 f))
    ∙ ap (λ n. filled n f s) four_on
  where
    there : List ℕ
    there = tab at f ++ drop at s

    held : l ≡ there
    held = p ∙ ap (λ n. filled n f s) (sym q)

    behind : drop (at + 4) there ≡ drop (at + 4) s
    behind =
        ap (λ n. drop (n + 4) there) (sym (length_tab at f))
        ∙ drop-append-add (tab at f) (drop at s) 4
        ∙ drop-drop 4 at s

    four_on : at + 4 ≡ 4 * (i + 1)
    four_on = omega arith

pub all_taps : (T t : List ℕ) (k i : ℕ) (s l : List ℕ) → length s ≡ 12 * k + 4 → i ≡ 3 * k + 1
    → l ≡ filled (4 * i) (read_word T t) s → l ≡ read_taps T t k
unfolding read_taps
all_taps T t k i s l h q e =
    let n : 4 * i ≡ 12 * k + 4 = omega arith in
    e ∙ ap (λ n. filled n (read_word T t) s) n ∙ filled_all (12 * k + 4) (read_word T t) s h
