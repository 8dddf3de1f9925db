-- `board_read::read`: an element below p has a first payload below 16, so that `value` spells it.
-- Assumes nothing.
use native.Mathlib.Omega.{arith}
use Rattle.board_words.specs.Elements.{element_at}
use Rattle.board_words.proofs.Laws.{read_three}
use Rattle.board_read.proofs.read.Goals as goal

pub value-requires : goal.value-requires
unfolding element_at
value-requires c = omega arith

pub returns : goal.returns
returns c =
    read_three _ _ _ _ _ _ c.read.ensures c.read-2.ensures c.read-3.ensures
    c.value.ensures
