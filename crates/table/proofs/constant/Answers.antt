-- `table::constant`: K_n is the twelve words from where it stands, which are canonical.
-- Assumes nothing.
use mathlib.Core.Path.{◌≡◌, sym, ap, ◌∙◌, subst}
use Prim.Native.Nat.{◌+◌, ◌-◌, ◌*◌}
use native.Mathlib.Omega.{arith}
use lib.ListN.{length, take, drop}
use Rattle.field_words.specs.Words.{AllCanonical}
use Rattle.table.specs.Table.{constant}
use Rattle.table.proofs.Parts.{length_constant, constant_canonical}
use Rattle.table.proofs.constant.Goals as goal

pub returns : goal.returns
unfolding constant
returns c =
    let table = c.args.table.now in
    let n = c.args.n in
    let start = 288 + 12 * n in
    let twelve : start + 12 - start ≡ 12 = omega arith in
    let k : take (start + 12 - start) (drop start table) ≡ constant table n =
    ap (λ l. take l (drop start table)) twelve in (
      k,
      ap length k ∙ length_constant table c.requires.0.size n (omega arith),
      subst AllCanonical (sym k) (constant_canonical table c.requires.0.size c.requires.0.canonical n (omega arith)),
    )
