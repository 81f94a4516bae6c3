use Rattle.net_core.specs.Held.{run_of}
use Rattle.nest_tests.proofs.Streams.{kept_along}
use Rattle.nest_tests.proofs.alone.run_along.Goals as goal

pub run_by-requires-clause-limits : goal.run_by-requires-clause-limits
run_by-requires-clause-limits c =
    c.sound.ensures.limits c.args.made.now.nest c.args.made.now.network c.requires.sound.fits

pub returns-clause-kept : goal.returns-clause-kept
returns-clause-kept c p =
    let made = c.args.made.now in
    kept_along made.nest made.network c.args.inputs.now c.requires.sound made.cert.schedule
    (run_of c.args.state.now) (run_of c.run_by.new.state) c.requires.ends c.requires.opening
    (rw c.as_slice.ensures at c.run_by.ensures.run) p
