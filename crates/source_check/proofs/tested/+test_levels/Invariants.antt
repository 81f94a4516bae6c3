use Rattle.source_check.proofs.tested.+test_levels.Given as goal

abbrev pub decreases-test_levels : goal.decreases-test_levels
decreases-test_levels l = l.order.now.common
