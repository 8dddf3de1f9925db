-- Inputs and the chain as the code has them: the words that it reads for a hash, and the state that begins with the
-- last output.
-- Assumes nothing.
use mathlib.Core.Path.{◌≡◌, refl, sym, ap, ap₂, ◌∙◌, subst}
use mathlib.Core.List.{List, [], ◌∷◌, ◌++◌}
use Prim.Native.Nat.{ℕ, ◌+◌, ◌*◌, ◌≤◌}
use native.Mathlib.Numerals.{add-one}
use native.Mathlib.Omega.{arith}
use lib.ListN.{length, take, drop, replicate, length-drop}
use lib.Seq.{get_or-drop, take_all}
use Rattle.lists.specs.Lists.{cell}
use Rattle.field_words.specs.Words.{AllCanonical, CanonicalTo}
use Rattle.hash.specs.Hash.{final_state, input, tap, output_at}
use Rattle.hash.proofs.Inputs.{IsTap, tap_is_tap, input_state, output_zero, output_suc, output_tap}
use Rattle.hash.proofs.CodeStates.{canonical_state}

-- the first four cells
pub first_four : (s : List ℕ) → 4 ≤ length s → cell s 0 ∷ cell s 1 ∷ cell s 2 ∷ cell s 3 ∷ [] ≡ take 4 s
first_four [] h = absurd (omega arith)
first_four (a ∷ []) h = absurd (omega arith)
first_four (a ∷ b ∷ []) h = absurd (omega arith)
first_four (a ∷ b ∷ c ∷ []) h = absurd (omega arith)
first_four (a ∷ b ∷ c ∷ d ∷ s) h = refl

-- w_n, from its first word at n₀
pub tap_words_lem : (w : List ℕ) (n n₀ : ℕ) → 4 * n + 4 ≤ length w → n₀ ≡ 4 * n
    → cell w n₀ ∷ cell w (n₀ + 1) ∷ cell w (n₀ + 2) ∷ cell w (n₀ + 3) ∷ [] ≡ tap w n
unfolding tap
tap_words_lem w n n₀ h e =
    (λ i. at 0 n₀ (omega arith) i ∷ at 1 (n₀ + 1) (omega arith) i
    ∷ at 2 (n₀ + 2) (omega arith) i ∷ at 3 (n₀ + 3) (omega arith) i ∷ [])
    ∙ first_four (drop (4 * n) w) (omega (arith, length-drop (4 * n) w))
  where
    at : (j m : ℕ) → m ≡ 4 * n + j → cell w m ≡ cell (drop (4 * n) w) j
    at j m q = ap (cell w) q ∙ sym (get_or-drop (4 * n) w j 0)

-- the input that begins with the first four cells of s, and goes on with the tap b
pub input_words : (s b : List ℕ) → 4 ≤ length s → length b ≡ 4
    → cell s 0 ∷ cell s 1 ∷ cell s 2 ∷ cell s 3 ∷ cell b 0 ∷ cell b 1 ∷ cell b 2 ∷ cell b 3 ∷ 0 ∷ 0 ∷ 0 ∷ 0 ∷ []
    ≡ input (take 4 s) b
unfolding input
input_words s b p q = ap₂ input (first_four s p) (first_four b (omega arith) ∙ take_all 4 b (omega arith))

-- ---- the walk: the state begins with the last output
module _ (T w : List ℕ) where
  -- before the first hash
  pub starts : (s : List ℕ) → 4 ≤ length w → s ≡ tap w 0 ++ replicate 8 0 → take 4 s ≡ output_at T w 0
  starts s h e =
      let t = tap_words_lem w 0 0 h refl in
      ap (take 4) e ∙ ap (λ x. take 4 (x ++ replicate 8 0)) (sym t) ∙ t ∙ sym (output_zero T w)

  module _ (h : ℕ) (s r : List ℕ) (e : take 4 s ≡ output_at T w h) (q : r ≡ input (take 4 s) (tap w (h + 1))) where
    pub input_canonical : AllCanonical w → 4 * h + 8 ≤ length w → CanonicalTo 12 r
    input_canonical a l =
        canonical_state q
        (input_state (subst IsTap (sym e) (output_tap T w a (omega arith) h)) (tap_is_tap w a (h + 1) (omega arith)))

    -- after hash h
    pub goes_on : (f : List ℕ) → f ≡ final_state T r → take 4 f ≡ output_at T w (h + 1)
    goes_on f p =
        ap (take 4) (p ∙ ap (final_state T) (q ∙ ap₂ (λ a n. input a (tap w n)) e (add-one h)))
        ∙ sym (output_suc T w h)
        ∙ ap (output_at T w) (sym (add-one h))
