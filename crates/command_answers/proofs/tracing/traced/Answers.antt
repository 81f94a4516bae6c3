use Rattle.std.proofs.Common.{subst}
use Rattle.std.specs.Prelude.{IfOk}
use Rattle.net_core.specs.declared.network.Network.{Network}
use Rattle.net_core.specs.Machine.{net_of}
use Rattle.net_core.specs.Orders.{EndsAll}
use Rattle.net_core.specs.Rules.{tags}
use Rattle.command_answers.proofs.tracing.traced.Goals as goal

pub returns : goal.returns
returns g c =
    subst (λ (n : Network). IfOk c.run_board.result (λ run. EndsAll (net_of n) tags run.items))
    c.in_ok-network.ensures.network c.run_board.ensures
