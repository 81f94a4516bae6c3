use Rattle.std.proofs.Common.{◌≡◌, subst}
use Rattle.std.specs.Prelude.{IfOk}
use Rattle.net_core.specs.declared.network.Network.{Network}
use Rattle.net_core.specs.Machine.{net_of}
use Rattle.rtl_answers.specs.Clocking.{clocks_with}
use Rattle.rtl_answers.proofs.clocks.clocks_for.Goals as goal

pub returns : goal.returns
returns c =
    subst
    (λ (n : Network). IfOk c.clocks_with.result (λ count. count ≡ clocks_with c.args.ports (net_of n)))
    c.in_ok-network.ensures.network c.clocks_with.ensures
