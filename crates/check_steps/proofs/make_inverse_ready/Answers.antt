-- `check_steps::make_inverse_ready`: the inverse's 144 words lie in the table and are canonical; they are made ready
-- with the back scale.
-- Assumes nothing.
use mathlib.Core.Path.{sym, ap, ◌∙◌, subst}
use native.Mathlib.Omega.{arith}
use lib.ListN.{length}
use Rattle.field_words.specs.Words.{AllCanonical}
use Rattle.matrix_ready.specs.MixingHelpers.{ready}
use Rattle.table.proofs.Theorems.{inverse_length, inverse_canonical}
use Rattle.check_steps.specs.StepHelpers.{back_scale, back_ready}
use Rattle.check_steps.proofs.make_inverse_ready.Goals as goal

pub make_ready-requires : goal.make_ready-requires
make_ready-requires c =
    let t = c.args.table.now in
    let m = c.inverse.ensures in (
      ap length m ∙ inverse_length t c.requires.0,
      subst AllCanonical (sym m) (inverse_canonical t c.requires.0),
      omega arith,
      c.requires.1,
    )

pub returns : goal.returns
unfolding back_ready
returns c = c.make_ready.ensures ∙ ap (λ m. ready m back_scale) c.inverse.ensures
