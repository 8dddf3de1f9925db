-- Build over an accepted table accepts every list of 3k + 1 canonical taps, k permitted, and leaves its section 3.1
-- trace.
-- Assumes nothing.
use mathlib.Core.Path.{◌≡◌, refl, ap, ◌∙◌}
use mathlib.Core.List.{List}
use Prim.Native.Nat.{ℕ, ◌+◌, ◌*◌}
use native.Mathlib.Omega.{arith}
use lib.ListN.{length}
use Rattle.std.specs.Prelude.{Ok}
use Rattle.field_words.specs.Words.{AllCanonical}
use Rattle.numbers.specs.Numbers.{IsPermitted, tap_word_batches}
use Rattle.refusals.specs.Answers.{with_value, leaves}
use Rattle.table.specs.Table.{IsTable}
use Rattle.hash.specs.Hash.{chain}
use Rattle.trace.specs.Trace.{trace}
use Rattle.trace.specs.Answers.{build_answer, build_leaves}
use Rattle.trace.proofs.Answers.{build_passes}

module _ (T w : List ℕ) (k : ℕ) (table : IsTable T) (permitted : IsPermitted k) (size : length w ≡ 12 * k + 4)
    (canonical : AllCanonical w) where
  batches : tap_word_batches (length w) ≡ k
  batches = omega arith

  pub build_accepts : build_answer T w (384 * k) ≡ Ok (chain T w k)
  unfolding build_answer
  build_accepts =
      let e =
      build_passes T w (384 * k) k
      (record { table = table; permitted = permitted; taps = size; room = refl; canonical = canonical }) in
      ap (λ a. with_value a (chain T w (tap_word_batches (length w)))) e
      ∙ ap (λ n. Ok (chain T w n)) batches

  pub build_leaves_lem : (old : List ℕ) → length old ≡ 384 * k → build_leaves T w old ≡ trace T w k
  unfolding build_leaves
  build_leaves_lem old l =
      let e =
      build_passes T w (length old) k
      (record { table = table; permitted = permitted; taps = size; room = l; canonical = canonical }) in
      ap (λ a. leaves a (trace T w (tap_word_batches (length w))) old) e ∙ ap (trace T w) batches
