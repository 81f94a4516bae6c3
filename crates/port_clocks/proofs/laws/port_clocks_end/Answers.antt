use Rattle.std.proofs.Common.{[]}
use Rattle.net_core.specs.Rules.{tags}
use Rattle.port_clocks.proofs.PortClockRuns.{port_clocks_end}
use Rattle.port_clocks.proofs.laws.port_clocks_end.Goals as goal

pub returns : goal.returns
returns g c n rule wired always =
    let all = always.ends [] tt in
    let over_tags = c.every_order.ensures.ends n rule tags all.0 wired (all.1, all.2) in
    port_clocks_end n wired (c.clocked_run_ends.ensures n tags wired over_tags) rule
    (c.port_runs_end.ensures n rule wired always)
