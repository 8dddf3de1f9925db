-- `field_words::first_bad`: the words passed are canonical.
-- Assumes nothing.
use Rattle.field_words.specs.Words.{CanonicalTo}
use Rattle.field_words.proofs.first_bad.Given as goal

abbrev pub invariant-loop-i : goal.invariant-loop-i
invariant-loop-i l = CanonicalTo l.i l.s
