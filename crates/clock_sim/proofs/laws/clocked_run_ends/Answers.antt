use Rattle.std.proofs.Common.{[]}
use Rattle.net_core.specs.Rules.{tags}
use Rattle.clock_sim.proofs.ClockRuns.{clocked_run_ends}
use Rattle.clock_sim.proofs.laws.clocked_run_ends.Goals as goal

pub returns : goal.returns
returns g c n rule wired ends =
    let all = ends.ends [] tt in
    clocked_run_ends n rule wired (c.two_steps.ensures.stays n rule wired) (c.two_steps-2.ensures.stays n tags wired)
    (λ run is. c.every_order.ensures.same n rule tags run wired is)
    (λ run is. c.every_order-2.ensures.same n tags rule run wired is) ends
    (c.every_order.ensures.ends n rule tags all.0 wired (all.1, all.2))
