use Rattle.std.proofs.Common.{◌∙◌, ap, sym, subst}
use Rattle.net_core.specs.declared.network.Network.{Network}
use Rattle.net_core.specs.Machine.{net_of}
use Rattle.net_core.specs.Shape.{FitsNumbers, IsWired}
use Rattle.net_core.specs.Sound.{IsSound}
use Rattle.net_checker.specs.Fits.{Fits}
use Rattle.swept_net.specs.Certificates.{swept_cert}
use Rattle.swept_net.proofs.Numbers.{numbers_stay}
use Rattle.witness_plan.specs.Sequential.{with_capacities}
use Rattle.witness_plan.specs.declared.schedules.Policy.TheVariants.{Down}
use Rattle.cap_trim.specs.Rests.{least_run}
use Rattle.cap_trim.proofs.TrimFits.{planned_wired}
use Rattle.least_network.specs.Networks.{HasLeastCapacities, lowered}
use Rattle.least_network.proofs.NoneBelow.{none_below}
use Rattle.least_network.proofs.networks.compile_least.Goals as goal

pub trim-requires-clause-planned : goal.trim-requires-clause-planned
trim-requires-clause-planned c = (Down, c.in_ok-network.ensures.network)

pub returns-clause-network : goal.returns-clause-network
returns-clause-network c =
    let derived : Network = c.in_ok-network.network in
    (rw c.as_slice.ensures at c.in_ok-least.ensures)
    ∙ ap (with_capacities derived) c.in_ok-trimmed.ensures.capacities
    ∙ ap lowered c.in_ok-network.ensures.network

pub returns-clause-numbers : goal.returns-clause-numbers
returns-clause-numbers c =
    let derived : Network = c.in_ok-network.network in
    subst (λ (n : Network). FitsNumbers (net_of n)) (sym c.in_ok-least.ensures)
    (numbers_stay (net_of derived) _ _ (c.other_capacities.ensures.same derived _) c.in_ok-network.ensures.numbers)

pub returns-clause-fits : goal.returns-clause-fits
returns-clause-fits c =
    let nest = c.args.nest.now in
    subst (λ (n : Network). Fits nest n (swept_cert nest (least_run (net_of n))))
    (sym (rw c.as_slice.ensures at c.in_ok-least.ensures)) c.in_ok-trimmed.ensures.fits

pub returns-clause-sound : goal.returns-clause-sound
returns-clause-sound c =
    let nest = c.args.nest.now in
    subst (λ (n : Network). IsSound nest n) (sym (rw c.as_slice.ensures at c.in_ok-least.ensures))
    (c.is_sound.ensures nest _ _ c.in_ok-trimmed.ensures.fits)

pub returns-clause-least : goal.returns-clause-least
returns-clause-least c =
    let derived : Network = c.in_ok-network.network in
    let trimmed = c.in_ok-trimmed.trimmed in
    let lower : Network = with_capacities derived trimmed.capacities in
    let wired : IsWired (net_of lower) =
    c.other_capacities.ensures.wired derived trimmed.capacities
    (planned_wired c.args.nest.now derived (Down, c.in_ok-network.ensures.network)) in
    subst (λ (n : Network). HasLeastCapacities n) (sym (rw c.as_slice.ensures at c.in_ok-least.ensures))
    (record {
      none_below = none_below (net_of lower) wired trimmed.rests c.in_ok-trimmed.ensures.sticks;
      sticks = (trimmed.rests, c.in_ok-trimmed.ensures.sticks);
    })
