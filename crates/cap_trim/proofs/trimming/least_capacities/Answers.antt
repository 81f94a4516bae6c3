use Rattle.std.proofs.Common.{◌∙◌, length, ap}
use Rattle.cap_trim.specs.Capacities.{lowered_rests}
use Rattle.cap_trim.proofs.CapacityLists.{at_last, last_long}
use Rattle.cap_trim.proofs.trimming.least_capacities.Goals as goal

pub lowered_rests-requires : goal.lowered_rests-requires
lowered_rests-requires c =
    ap length (c.deref_mut.ensures.value ∙ c.in_ok-capacities.ensures) ∙ last_long c.args.wired.now.network.now

pub returns-clause-rests : goal.returns-clause-rests
returns-clause-rests c =
    c.in_ok-rests.ensures.rests
    ∙ ap lowered_rests
    (at_last c.args.wired.now.network.now c.deref_mut.result.now (c.deref_mut.ensures.value ∙ c.in_ok-capacities.ensures))
