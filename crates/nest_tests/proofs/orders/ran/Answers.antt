use Rattle.nest_tests.proofs.orders.ran.Goals as goal

pub run_in-many-requires-clause-limits : goal.run_in-many-requires-clause-limits
run_in-many-requires-clause-limits c =
    c.sound.ensures.limits c.args.made.now.nest c.args.made.now.network c.requires.fits
