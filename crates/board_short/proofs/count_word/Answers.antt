-- `board_short::count_word`: k stands below the mark.
-- Assumes nothing.
use mathlib.Core.Path.{ap, ◌∙◌}
use Rattle.board_words.specs.Words.{joined}
use Rattle.board_short.proofs.Files.{mark_or, mark_fits}
use Rattle.board_short.proofs.count_word.Goals as goal

pub join-requires : goal.join-requires
join-requires c = mark_fits c.args.k c.requires

pub returns : goal.returns
returns c = c.join.ensures ∙ ap (joined 0) (mark_or c.args.k c.requires)
