-- `board_read::value`: shifts join the three payloads.
-- Assumes nothing.
use mathlib.Core.Path.{◌∙◌}
use native.Mathlib.Omega.{arith}
use Rattle.board_words.proofs.Laws.{spelled}
use Rattle.board_read.proofs.value.Goals as goal

pub returns : goal.returns
returns c =
    spelled c.payload.result c.payload-2.result c.payload-3.result (omega arith)
    (omega arith) (omega arith)
    ∙ omega arith
