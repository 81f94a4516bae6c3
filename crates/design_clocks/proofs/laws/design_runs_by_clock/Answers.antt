use Rattle.clock_sim.proofs.ClockRuns.{clocks_run}
use Rattle.design_clocks.proofs.Clocked.{runs_by_clock}
use Rattle.design_clocks.proofs.laws.design_runs_by_clock.Goals as goal

pub returns : goal.returns
returns g c n controls rule wired give =
    runs_by_clock n controls rule wired give (clocks_run n rule (c.two_steps.ensures.stays n rule wired))
