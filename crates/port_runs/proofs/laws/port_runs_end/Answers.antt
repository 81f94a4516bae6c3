use Rattle.port_runs.proofs.PortEnds.{ports_end}
use Rattle.port_runs.proofs.laws.port_runs_end.Goals as goal

pub returns : goal.returns
returns g c n rule wired always = ports_end n rule wired always
