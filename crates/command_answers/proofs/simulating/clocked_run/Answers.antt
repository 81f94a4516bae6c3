use Rattle.std.proofs.Common.{◌≡◌, subst}
use Rattle.std.specs.Prelude.{IfOk}
use Rattle.clock_sim.specs.Clocks.{clocks}
use Rattle.net_core.specs.declared.network.Network.{Network}
use Rattle.net_core.specs.Machine.{net_of}
use Rattle.command_answers.proofs.simulating.clocked_run.Goals as goal

pub returns-clause-clocks : goal.returns-clause-clocks
returns-clause-clocks c =
    subst (λ (n : Network). IfOk c.simulate.result (λ clocked. clocked.clocks ≡ clocks (net_of n)))
    c.in_ok-network.ensures.network c.simulate.ensures.clocks
