use Rattle.std.proofs.Common.{ap, ◌∙◌, Some}
use Rattle.net_core.specs.declared.network.Event.TheVariants.{Get, Fire, Put}
use Rattle.net_core.specs.Machine.{net_of}
use Rattle.net_core.specs.Held.{held_of, run_of}
use Rattle.net_core.proofs.Ready.{kept_reserved, kept_short, queue_reserved, position_short, for_after, can_come_next}
use Rattle.net_core.proofs.Ready.{after_event_step}
use Rattle.net_core.proofs.machine.step.Goals as goal

pub fire-requires-clause-reserved : goal.fire-requires-clause-reserved
fire-requires-clause-reserved g c =
    kept_reserved (net_of c.args.network.now) (held_of c.args.state.now) c.requires.state c.args.process c.in-Fire.refs
    (c.next.ensures ∙ ap Some c.in-Fire.is)

pub put-requires-clause-position : goal.put-requires-clause-position
put-requires-clause-position g c =
    position_short (net_of c.args.network.now) (held_of c.args.state.now) c.requires.state c.args.process
    (Put c.in-Put.channel) (c.next.ensures ∙ ap Some c.in-Put.is)

pub put-requires-clause-reserved : goal.put-requires-clause-reserved
put-requires-clause-reserved g c =
    let n = net_of c.args.network.now in
    let h = held_of c.args.state.now in
    let is = c.next.ensures ∙ ap Some c.in-Put.is in
    queue_reserved n h c.requires.state c.args.process c.in-Put.channel is
    (can_come_next n h.run c.args.process (Put c.in-Put.channel) is c.requires.enabled)

pub returns-in-Get-clause-run : goal.returns-in-Get-clause-run
returns-in-Get-clause-run g c =
    let rule = g.F.Firing.meaning c.args.rule.now in
    c.get.ensures.run rule
    ∙ after_event_step (net_of c.args.network.now) rule (run_of c.args.state.now) c.args.process
    (Get c.in-Get.channel c.in-Get.slot) (c.next.ensures ∙ ap Some c.in-Get.is)

pub returns-in-Get-clause-state : goal.returns-in-Get-clause-state
returns-in-Get-clause-state g c =
    let n = net_of c.args.network.now in
    let h = held_of c.args.state.now in
    let e = Get c.in-Get.channel c.in-Get.slot in
    let is = c.next.ensures ∙ ap Some c.in-Get.is in
    let rule = g.F.Firing.meaning c.args.rule.now in
    for_after n h c.requires.state rule (held_of c.get.new.self) c.args.process e is
    (can_come_next n h.run c.args.process e is c.requires.enabled) (c.get.ensures.run rule) c.get.ensures.passed

pub returns-in-Fire-clause-state : goal.returns-in-Fire-clause-state
returns-in-Fire-clause-state g c =
    let n = net_of c.args.network.now in
    let h = held_of c.args.state.now in
    let e = Fire c.in-Fire.refs in
    let is = c.next.ensures ∙ ap Some c.in-Fire.is in
    let rule = g.F.Firing.meaning c.args.rule.now in
    for_after n h c.requires.state rule (held_of c.fire.new.self) c.args.process e is
    (can_come_next n h.run c.args.process e is c.requires.enabled) c.fire.ensures.run c.fire.ensures.passed

pub returns-in-Put-clause-run : goal.returns-in-Put-clause-run
returns-in-Put-clause-run g c =
    let rule = g.F.Firing.meaning c.args.rule.now in
    c.put.ensures.run rule
    ∙ after_event_step (net_of c.args.network.now) rule (run_of c.args.state.now) c.args.process (Put c.in-Put.channel)
    (c.next.ensures ∙ ap Some c.in-Put.is)

pub returns-in-Put-clause-state : goal.returns-in-Put-clause-state
returns-in-Put-clause-state g c =
    let n = net_of c.args.network.now in
    let h = held_of c.args.state.now in
    let e = Put c.in-Put.channel in
    let is = c.next.ensures ∙ ap Some c.in-Put.is in
    let rule = g.F.Firing.meaning c.args.rule.now in
    for_after n h c.requires.state rule (held_of c.put.new.self) c.args.process e is
    (can_come_next n h.run c.args.process e is c.requires.enabled) (c.put.ensures.run rule) c.put.ensures.passed

pub get-requires-clause-position : goal.get-requires-clause-position
get-requires-clause-position g c =
    position_short (net_of c.args.network.now) (held_of c.args.state.now) c.requires.state c.args.process
    (Get c.in-Get.channel c.in-Get.slot) (c.next.ensures ∙ ap Some c.in-Get.is)

pub fire-requires-clause-position : goal.fire-requires-clause-position
fire-requires-clause-position g c =
    position_short (net_of c.args.network.now) (held_of c.args.state.now) c.requires.state c.args.process
    (Fire c.in-Fire.refs) (c.next.ensures ∙ ap Some c.in-Fire.is)

pub fire-requires-clause-turn : goal.fire-requires-clause-turn
fire-requires-clause-turn g c =
    kept_short (net_of c.args.network.now) (held_of c.args.state.now) c.requires.state c.args.process
