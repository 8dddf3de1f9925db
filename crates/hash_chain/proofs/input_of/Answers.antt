-- `hash_chain::input_of`: the words that it reads are the next tap's.
-- Assumes nothing.
use mathlib.Core.Path.{◌≡◌, ap, ◌∙◌}
use Prim.Native.Nat.{◌+◌, ◌*◌}
use native.Mathlib.Omega.{arith}
use lib.ListN.{take}
use Rattle.hash.specs.Hash.{input}
use Rattle.hash_chain.proofs.CodeChain.{tap_words_lem}
use Rattle.hash_chain.proofs.input_of.Goals as goal

pub returns : goal.returns
returns c =
    let entry = c.args in
    let at = c.start-at.result in
    let e : at ≡ 4 * (entry.hash.0 + 1) = omega arith in
    c.next_input.ensures ∙ ap (input (take 4 entry.last))
    (tap_words_lem entry.taps.now (entry.hash.0 + 1) at (omega arith) e)
