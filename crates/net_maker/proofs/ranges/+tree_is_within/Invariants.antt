use Rattle.net_maker.proofs.ranges.+tree_is_within.Given as goal

abbrev pub decreases-tree_is_within : goal.decreases-tree_is_within
decreases-tree_is_within l = l.levels
