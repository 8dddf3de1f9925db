-- `field_roots::powers_times`: the exponent is halved at each call.
use Rattle.field_roots.proofs.+powers_times.Given as goal

abbrev pub decreases-powers_times : goal.decreases-powers_times
decreases-powers_times l = l.e
