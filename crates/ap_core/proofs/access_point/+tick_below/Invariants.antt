use Rattle.ap_core.proofs.access_point.+tick_below.Given as goal

abbrev pub decreases-tick_below : goal.decreases-tick_below
decreases-tick_below l = l.count
