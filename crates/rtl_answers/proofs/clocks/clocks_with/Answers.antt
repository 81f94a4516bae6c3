use Rattle.rtl_answers.proofs.clocks.clocks_with.Goals as goal

pub returns-in-One : goal.returns-in-One
returns-in-One c = rw c.in-One.is c.script_clocks.ensures

pub invariant_of-wired-clause-wired : goal.invariant_of-wired-clause-wired
invariant_of-wired-clause-wired c = c.requires.sound.fits.shaped.wired

pub clock_count-requires : goal.clock_count-requires
clock_count-requires c =
    c.sound_networks_end.ensures c.args.nest_points.now.nest.now c.args.network.now c.requires.sound

pub returns-in-All : goal.returns-in-All
returns-in-All c = rw c.in-All.is c.clock_count.ensures
