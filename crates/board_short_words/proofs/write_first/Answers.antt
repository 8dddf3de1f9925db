-- `board_short_words::write_first`: nothing is written where one word holds the element, else its first two.
-- Assumes nothing.
use mathlib.Core.Path.{sym, ◌∙◌}
use Rattle.board_short_words.proofs.Words.{write_none}
use Rattle.board_short_words.proofs.write_first.Goals as goal

pub returns-then-is_small-clause-destination_after : goal.returns-then-is_small-clause-destination_after
returns-then-is_small-clause-destination_after c =
    write_none _ c.args.index c.args.element (sym c.is_small.ensures ∙ c.if-is_small.true)
