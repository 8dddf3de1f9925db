-- The input of Hash as the code has it: eight words and four zeros are the input of two taps, and a state.
-- Assumes nothing.
use mathlib.Core.Path.{◌≡◌, refl, subst}
use mathlib.Core.List.{List, [], ◌∷◌}
use Prim.Native.Nat.{ℕ}
use native.Mathlib.Omega.{arith}
use lib.ListN.{length, take, drop, length-drop}
use Rattle.lists.specs.Lists.{cell, tab}
use Rattle.lists.proofs.Tab.{tab_cell}
use Rattle.field_words.specs.Words.{AllCanonical}
use Rattle.hash.specs.Hash.{input}
use Rattle.hash.proofs.States.{IsState}
use Rattle.hash.proofs.Inputs.{take_tap, drop_canonical, input_state}

module _ (w : List ℕ) (eight : length w ≡ 8) where
  pub two_taps : cell w 0 ∷ cell w 1 ∷ cell w 2 ∷ cell w 3 ∷ cell w 4 ∷ cell w 5 ∷ cell w 6 ∷ cell w 7
      ∷ 0 ∷ 0 ∷ 0 ∷ 0 ∷ [] ≡ input (take 4 w) (drop 4 w)
  unfolding tab input
  two_taps =
      subst (λ s. cell s 0 ∷ cell s 1 ∷ cell s 2 ∷ cell s 3 ∷ cell s 4 ∷ cell s 5 ∷ cell s 6 ∷ cell s 7
      ∷ 0 ∷ 0 ∷ 0 ∷ 0 ∷ [] ≡ input (take 4 s) (drop 4 s))
      (tab_cell 8 w eight) refl

  pub two_taps_state : AllCanonical w → IsState (input (take 4 w) (drop 4 w))
  two_taps_state a =
      input_state (take_tap w a (omega arith))
      (record { size = omega (arith, length-drop 4 w); canonical = drop_canonical 4 w a })
