use Rattle.std.proofs.Common.{◌≡◌, subst}
use Rattle.std.specs.Prelude.{IfOk}
use Rattle.cap_trim.specs.Capacities.{capacity_list, lowered_rests, trimmed_network}
use Rattle.net_core.specs.declared.network.Network.{Network}
use Rattle.net_core.specs.Machine.{net_of}
use Rattle.command_answers.proofs.trimming.trimmed.Goals as goal

pub invariant_of-wired-clause-wired : goal.invariant_of-wired-clause-wired
invariant_of-wired-clause-wired c = c.in_ok-network.ensures.sound.fits.shaped.wired

pub returns-clause-capacities : goal.returns-clause-capacities
returns-clause-capacities c =
    subst (λ (n : Network). IfOk c.least_capacities.result (λ made. made.capacities ≡ capacity_list (trimmed_network (net_of n))))
    c.in_ok-network.ensures.network c.least_capacities.ensures.capacities

pub returns-clause-rests : goal.returns-clause-rests
returns-clause-rests c =
    subst (λ (n : Network). IfOk c.least_capacities.result (λ made. made.rests ≡ lowered_rests (trimmed_network (net_of n))))
    c.in_ok-network.ensures.network c.least_capacities.ensures.rests
