use Rattle.source_check.proofs.tested.+test_both.Given as goal

abbrev pub decreases-test_both : goal.decreases-test_both
decreases-test_both l = l.order.now.common
