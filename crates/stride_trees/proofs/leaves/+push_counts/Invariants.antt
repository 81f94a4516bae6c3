use Rattle.stride_trees.proofs.leaves.+push_counts.Given as goal

abbrev pub decreases-push_counts : goal.decreases-push_counts
decreases-push_counts l = l.more
