use Rattle.port_design.proofs.PortRings.{rings_hold}
use Rattle.port_design.proofs.laws.port_rings_hold_tokens.Goals as goal

pub returns : goal.returns
returns g c n controls rule k c' wired apart give some =
    rings_hold n controls rule (c.port_design_runs_by_clock.ensures n controls rule wired apart give).defined k c' some
