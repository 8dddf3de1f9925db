-- `clear_line::put_number`: the call's number is smaller.
-- Assumes nothing.
use Rattle.clear_line.proofs.+put_number.Given as goal

abbrev pub decreases-put_number : goal.decreases-put_number
decreases-put_number l = l.n
