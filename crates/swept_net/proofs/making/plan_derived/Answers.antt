use Rattle.std.proofs.Common.{sym, subst}
use Rattle.net_core.specs.declared.network.Network.{Network}
use Rattle.net_core.specs.Machine.{net_of}
use Rattle.net_core.specs.Shape.{FitsNumbers}
use Rattle.swept_net.proofs.Numbers.{numbers_stay}
use Rattle.swept_net.proofs.making.plan_derived.Goals as goal

pub returns-clause-numbers : goal.returns-clause-numbers
returns-clause-numbers c =
    let derived : Network = c.args.derived in
    let fits : FitsNumbers (net_of derived) =
    subst (λ (n : Network). FitsNumbers (net_of n)) (sym c.requires.derived) c.numbers_fit.ensures in
    subst (λ (n : Network). FitsNumbers (net_of n)) (sym c.in_ok-network.ensures)
    (numbers_stay (net_of derived) _ _ (c.other_capacities.ensures.same derived _) fits)
