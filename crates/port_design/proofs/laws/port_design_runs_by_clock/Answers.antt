use Rattle.port_design.proofs.Clocked.{runs_by_clock}
use Rattle.port_design.proofs.laws.port_design_runs_by_clock.Goals as goal

pub returns : goal.returns
returns g c n controls rule wired apart give = runs_by_clock n controls rule wired apart give
