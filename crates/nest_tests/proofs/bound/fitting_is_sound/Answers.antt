use Rattle.nest_tests.proofs.bound.fitting_is_sound.Goals as goal

pub returns : goal.returns
returns c = c.is_sound.ensures c.args.nest.now c.args.network.now c.args.cert.now c.requires
