use Rattle.net_maker.proofs.ranges.+proof_is_within.Given as goal

abbrev pub decreases-proof_is_within : goal.decreases-proof_is_within
decreases-proof_is_within l = l.levels
