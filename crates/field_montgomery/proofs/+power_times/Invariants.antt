use Rattle.field_montgomery.proofs.+power_times.Given as goal

abbrev pub decreases-power_times : goal.decreases-power_times
decreases-power_times l = l.e
