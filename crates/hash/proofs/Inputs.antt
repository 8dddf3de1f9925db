-- Taps, inputs and outputs: the cells of a tap, of a hash's input and of its output, and that an input is a state.
-- Assumes nothing.
use mathlib.Core.Path.{◌≡◌, refl, sym, ap, ◌∙◌, subst}
use mathlib.Core.List.{List, ◌++◌}
use Prim.Native.Nat.{ℕ, zero, suc, ◌+◌, ◌*◌, ◌-◌, ◌≤◌, ◌<◌}
use native.Mathlib.Decide.{dec_lt}
use native.Mathlib.Omega.{arith}
use lib.ListN.{length, take, drop, replicate, length-append, length-take, length-drop}
use lib.ListN.{length-replicate, get_or-replicate, get_or-append}
use lib.Seq.{get_or-take, get_or-drop, get_or-append-add}
use Rattle.lists.specs.Lists.{cell}
use Rattle.field.specs.Field.{P}
use Rattle.field_words.specs.Words.{AllCanonical}
use Rattle.hash.specs.Hash.{final_state, input, hash, tap, output_at}
use Rattle.hash.proofs.States.{IsState, cell_lt, final_state_state}

-- four canonical cells: a tap or an output
pub record IsTap (s : List ℕ) : Type 0 where
  pub size : length s ≡ 4
  pub canonical : AllCanonical s

-- what holds in columns 0 to 3, 4 to 7 and 8 to 11 holds in all twelve
pub by_fours : (A : ℕ → Type 0) → ((j : ℕ) → j < 4 → A j) → ((j : ℕ) → j < 4 → A (4 + j))
    → ((j : ℕ) → j < 4 → A (8 + j)) → (j : ℕ) → j < 12 → A j
by_fours A f g h j l = go (dec_lt j 4) (dec_lt j 8)
  where
    go : Dec (j < 4) → Dec (j < 8) → A j
    go (yes a) d = f j a
    go (no a) (yes b) =
        let e : 4 + (j - 4) ≡ j = omega arith in
        subst A e (g (j - 4) (omega arith))
    go (no a) (no b) =
        let e : 8 + (j - 8) ≡ j = omega arith in
        subst A e (h (j - 8) (omega arith))

-- ---- the first four cells, and the cells after some
pub cell_take : (s : List ℕ) (j : ℕ) → j < 4 → cell (take 4 s) j ≡ cell s j
cell_take s j h = get_or-take 4 s j 0 h

pub take_tap : (s : List ℕ) → AllCanonical s → 4 ≤ length s → IsTap (take 4 s)
take_tap s a h =
    record { size = sized; canonical = λ j l. omega (arith, get_or-take 4 s j 0 (omega (arith, sized)), cell_lt s a j) }
  where
    sized : length (take 4 s) ≡ 4
    sized = length-take 4 s ∙ omega arith

pub drop_canonical : (n : ℕ) (s : List ℕ) → AllCanonical s → AllCanonical (drop n s)
drop_canonical n s a j l = omega (arith, get_or-drop n s j 0, cell_lt s a (n + j))

-- ---- a tap of a list
pub cell_tap : (w : List ℕ) (i j : ℕ) → j < 4 → cell (tap w i) j ≡ cell w (4 * i + j)
unfolding tap
cell_tap w i j h = cell_take (drop (4 * i) w) j h ∙ get_or-drop (4 * i) w j 0

pub tap_is_tap : (w : List ℕ) → AllCanonical w → (i : ℕ) → 4 * i + 4 ≤ length w → IsTap (tap w i)
unfolding tap
tap_is_tap w a i h =
    take_tap (drop (4 * i) w) (drop_canonical (4 * i) w a) (omega (arith, length-drop (4 * i) w))

-- ---- an input: two taps and four zeros
module _ {a b : List ℕ} (p : IsTap a) (q : IsTap b) where
  pub cell_input_left : (j : ℕ) → j < 4 → cell (input a b) j ≡ cell a j
  unfolding input
  cell_input_left j h =
      get_or-append (a ++ b) (replicate 4 0) 0 j (omega (arith, length-append a b, p.size, q.size))
      ∙ get_or-append a b 0 j (omega (arith, p.size))

  pub cell_input_right : (j : ℕ) → j < 4 → cell (input a b) (4 + j) ≡ cell b j
  unfolding input
  cell_input_right j h =
      get_or-append (a ++ b) (replicate 4 0) 0 (4 + j) (omega (arith, length-append a b, p.size, q.size))
      ∙ ap (λ n. cell (a ++ b) (n + j)) (sym p.size)
      ∙ get_or-append-add a b j 0

  pub cell_input_zeros : (j : ℕ) → j < 4 → cell (input a b) (8 + j) ≡ 0
  unfolding input
  cell_input_zeros j h =
      ap (λ n. cell (a ++ b ++ replicate 4 0) n) e
      ∙ get_or-append-add (a ++ b) (replicate 4 0) j 0
      ∙ get_or-replicate 4 j 0 0 h
    where
      e : 8 + j ≡ length (a ++ b) + j
      e = omega (arith, length-append a b, p.size, q.size)

  pub input_state : IsState (input a b)
  unfolding input
  input_state = record { size = sized; canonical = λ j l. low j (omega (arith, sized)) }
    where
      sized : length (input a b) ≡ 12
      sized =
          length-append (a ++ b) (replicate 4 0)
          ∙ omega (arith, length-append a b, p.size, q.size, length-replicate {A = ℕ} 4 0)

      low : (j : ℕ) → j < 12 → cell (input a b) j < P
      low =
          by_fours (λ j. cell (input a b) j < P)
          (λ j h. omega (arith, cell_input_left j h, cell_lt a p.canonical j))
          (λ j h. omega (arith, cell_input_right j h, cell_lt b q.canonical j))
          (λ j h. omega (arith, cell_input_zeros j h))

-- ---- the outputs along the chain
pub hash_tap : (T a b : List ℕ) → IsTap (hash T a b)
unfolding hash
hash_tap T a b =
    let f = final_state_state T (input a b) in
    take_tap (final_state T (input a b)) f.canonical (omega (arith, f.size))

pub output_zero : (T w : List ℕ) → output_at T w 0 ≡ tap w 0
unfolding output_at
output_zero T w = refl

-- the output of hash h is the first four cells of its final state
pub output_suc : (T w : List ℕ) (h : ℕ)
    → output_at T w (suc h) ≡ take 4 (final_state T (input (output_at T w h) (tap w (suc h))))
unfolding output_at hash
output_suc T w h = refl

pub output_tap : (T w : List ℕ) → AllCanonical w → 4 ≤ length w → (h : ℕ) → IsTap (output_at T w h)
unfolding output_at
output_tap T w a l zero = tap_is_tap w a 0 (omega arith)
output_tap T w a l (suc h) = hash_tap T _ _
