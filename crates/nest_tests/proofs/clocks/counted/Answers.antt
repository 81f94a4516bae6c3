use Rattle.nest_tests.proofs.clocks.counted.Goals as goal

pub invariant_of-wired-clause-wired : goal.invariant_of-wired-clause-wired
invariant_of-wired-clause-wired c = c.requires.fits.shaped.wired

pub clock_count-requires : goal.clock_count-requires
clock_count-requires c =
    c.sound_networks_end.ensures c.args.made.now.nest c.args.made.now.network c.requires
