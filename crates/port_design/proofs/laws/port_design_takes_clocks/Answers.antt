use Rattle.port_design.proofs.Clocked.{takes_clocks}
use Rattle.port_design.proofs.laws.port_design_takes_clocks.Goals as goal

pub returns : goal.returns
returns g c n controls rule wired apart give always =
    takes_clocks n controls rule wired apart give (c.port_clocks_end.ensures n rule wired always)
    (c.port_runs_end.ensures n rule wired always)
