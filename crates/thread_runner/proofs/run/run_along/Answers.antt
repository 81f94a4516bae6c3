use Rattle.net_core.specs.Held.{run_of}
use Rattle.thread_runner.proofs.ArrayAnswers.{scheduled_values}
use Rattle.thread_runner.proofs.run.run_along.Goals as goal

pub run_by-requires-clause-limits : goal.run_by-requires-clause-limits
run_by-requires-clause-limits g c =
    c.sound.ensures.limits c.args.rule.now.nest.now c.args.network.now c.requires.sound.fits

pub returns-clause-kept : goal.returns-clause-kept
returns-clause-kept g c p =
    scheduled_values c.args.rule.now.nest.now c.args.network.now c.args.rule.now.inputs.now c.requires.sound
    c.args.schedule.now (run_of c.args.state.now) (run_of c.run_by.new.state) c.requires.ends c.requires.opening
    c.run_by.ensures.run p
