use Rattle.std.proofs.Common.{Some, sym, ap, ◌∙◌, arith}
use Rattle.net_core.specs.Cuts.{can_come_at}
use Rattle.net_core.specs.Machine.{net_of}
use Rattle.net_core.specs.Progress.{at_capacities, cut_of}
use Rattle.net_core.proofs.progress.Progress.is_enabled.Goals as goal

pub has_token-requires-clause-channel : goal.has_token-requires-clause-channel
has_token-requires-clause-channel c =
    let event = sym c.in-Some-Get.ensures ∙ ap Some c.in-Some-Get.field-0-is in
    c.requires.progress.wired.get_channel c.args.process (cut_of c.args.self.now c.args.process) _ _ event

pub bounds-capacities-channel : goal.bounds-capacities-channel
bounds-capacities-channel c =
    let event = sym c.in-Some-Put.ensures ∙ ap Some c.in-Some-Put.field-0-is in
    let there =
    c.requires.progress.wired.put_channel c.args.process (cut_of c.args.self.now c.args.process) _ event in
    omega (arith, there, c.requires.capacities)

pub has_place-requires-clause-channel : goal.has_place-requires-clause-channel
has_place-requires-clause-channel c =
    let event = sym c.in-Some-Put.ensures ∙ ap Some c.in-Some-Put.field-0-is in
    c.requires.progress.wired.put_channel c.args.process (cut_of c.args.self.now c.args.process) _ event

pub returns-in-Some-Get : goal.returns-in-Some-Get
returns-in-Some-Get c =
    let event = sym c.in-Some-Get.ensures ∙ ap Some c.in-Some-Get.field-0-is in
    c.has_token.ensures
    ∙ sym (ap (can_come_at (at_capacities (net_of c.args.network.now) c.args.capacities.now) (cut_of c.args.self.now))
    event)

pub returns-in-Some-Fire : goal.returns-in-Some-Fire
returns-in-Some-Fire c =
    let event = sym c.in-Some-Fire.ensures ∙ ap Some c.in-Some-Fire.field-0-is in
    sym (ap (can_come_at (at_capacities (net_of c.args.network.now) c.args.capacities.now) (cut_of c.args.self.now))
    event)

pub returns-in-Some-Put : goal.returns-in-Some-Put
returns-in-Some-Put c =
    let event = sym c.in-Some-Put.ensures ∙ ap Some c.in-Some-Put.field-0-is in
    c.has_place.ensures
    ∙ sym (ap (can_come_at (at_capacities (net_of c.args.network.now) c.args.capacities.now) (cut_of c.args.self.now))
    event)

pub returns-in-None : goal.returns-in-None
returns-in-None c =
    sym (ap (can_come_at (at_capacities (net_of c.args.network.now) c.args.capacities.now) (cut_of c.args.self.now))
    (sym c.in-None.ensures))
