-- `clear_line::put_word`: the start is the word, and the rest is as it was.
-- Assumes nothing.
use mathlib.Core.Path.{refl, sym, ap, ◌∙◌}
use mathlib.Core.List.{◌++◌}
use lib.ListN.{length, drop}
use Rattle.clear_line.proofs.Fields.{over_start}
use Rattle.clear_line.proofs.put_word.Goals as goal

pub returns : goal.returns
returns c =
    let word = c.args.word.now in
    let out = c.args.out.now in
    (refl, ap (λ s. s ++ drop (length word) out) c.copy_from_slice.ensures.after ∙ sym (over_start word out c.requires))
