use Rattle.stride_trees.proofs.candidate.+push_yes.Given as goal

abbrev pub decreases-push_yes : goal.decreases-push_yes
decreases-push_yes l = l.count
