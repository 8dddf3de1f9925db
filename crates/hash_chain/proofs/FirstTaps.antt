-- The first 3c + 1 taps of a list chain to its output after 3c hashes, which looks at no later tap.
-- Assumes nothing.
use mathlib.Core.Path.{◌≡◌, sym, ap₂, ◌∙◌}
use mathlib.Core.List.{List}
use Prim.Native.Nat.{ℕ, zero, suc, ◌+◌, ◌*◌, ◌≤◌, ◌<◌}
use native.Mathlib.Omega.{arith}
use lib.ListN.{length, take, drop, length-take, length-drop}
use lib.Seq.{get_or-take, ext_get_or}
use Rattle.lists.specs.Lists.{cell}
use Rattle.hash.specs.Hash.{hash, tap, output_at, chain, first_taps}
use Rattle.hash.proofs.Inputs.{cell_tap}

-- a tap that lies whole in the first n words
tap_first : (n m : ℕ) (w : List ℕ) → 4 * m + 4 ≤ n → tap (take n w) m ≡ tap w m
unfolding tap
tap_first n m w h = ext_get_or 0 (tap (take n w) m) (tap w m) sized word
  where
    sized : length (tap (take n w) m) ≡ length (tap w m)
    sized =
        let a = length-take 4 (drop (4 * m) (take n w)) in
        let b = length-drop (4 * m) (take n w) in
        let d = length-take n w in
        let e = length-take 4 (drop (4 * m) w) in
        let f = length-drop (4 * m) w in
        omega arith

    word : (i : ℕ) → i < length (tap (take n w) m) → cell (tap (take n w) m) i ≡ cell (tap w m) i
    word i l =
        let b : i < 4 = omega (arith, length-take 4 (drop (4 * m) (take n w))) in
        cell_tap (take n w) m i b ∙ get_or-take n w (4 * m + i) 0 (omega arith) ∙ sym (cell_tap w m i b)

output_first : (T w : List ℕ) (c h : ℕ) → h ≤ 3 * c → output_at T (first_taps c w) h ≡ output_at T w h
unfolding output_at first_taps
output_first T w c zero l = tap_first (12 * c + 4) 0 w (omega arith)
output_first T w c (suc h) l =
    ap₂ (hash T) (output_first T w c h (omega arith)) (tap_first (12 * c + 4) (suc h) w (omega arith))

pub chain_first : (T w : List ℕ) (c : ℕ) → chain T (first_taps c w) c ≡ chain T w c
unfolding chain
chain_first T w c = output_first T w c (3 * c) (omega arith)
