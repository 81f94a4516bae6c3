use Rattle.stride_trees.proofs.candidate.+push_range.Given as goal

abbrev pub decreases-push_range : goal.decreases-push_range
decreases-push_range l = l.count
