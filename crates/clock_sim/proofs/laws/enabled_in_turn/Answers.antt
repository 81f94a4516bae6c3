use Rattle.clock_sim.proofs.ClockRuns.{clock_run}
use Rattle.clock_sim.proofs.laws.enabled_in_turn.Goals as goal

pub returns : goal.returns
returns g c n rule s wired = clock_run n rule (c.two_steps.ensures.stays n rule wired) s
