-- `table::make_ready`: M's 144 words lie in the table and are canonical; they are made ready with the scale.
-- Assumes nothing.
use mathlib.Core.Path.{sym, ap, ◌∙◌, subst}
use native.Mathlib.Omega.{arith}
use lib.ListN.{length}
use Rattle.field_words.specs.Words.{AllCanonical}
use Rattle.matrix_ready.specs.MixingHelpers.{ready}
use Rattle.table.specs.ReadyHelpers.{matrix_scale, ready_matrix}
use Rattle.table.proofs.Parts.{length_matrix, matrix_canonical}
use Rattle.table.proofs.make_ready.Goals as goal

pub make_ready-requires : goal.make_ready-requires
make_ready-requires c =
    let t = c.args.table.now in
    let m = c.matrix.ensures in (
      ap length m ∙ length_matrix t c.requires.0,
      subst AllCanonical (sym m) (matrix_canonical t c.requires.0 c.requires.1),
      omega arith,
      c.requires.2,
    )

pub returns : goal.returns
unfolding ready_matrix
returns c = c.make_ready.ensures ∙ ap (λ m. ready m matrix_scale) c.matrix.ensures
