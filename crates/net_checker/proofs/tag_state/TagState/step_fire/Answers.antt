use Rattle.std.proofs.Common.{map, ap, arith}
use Rattle.net_core.specs.Machine.{net_of}
use Rattle.net_checker.specs.SlotRows.{slots_in}
use Rattle.net_checker.proofs.BlockSteps.{fire_enabled}
use Rattle.net_checker.proofs.TagSteps.{enabled_left, enabled_process, few_fires, fire_step}
use Rattle.net_checker.proofs.tag_state.TagState.step_fire.Goals as goal

pub make_event-requires-clause-process : goal.make_event-requires-clause-process
make_event-requires-clause-process c =
    enabled_process (net_of c.args.network.now) c.args.self.now c.requires.state c.args.process
    (fire_enabled (net_of c.args.network.now) c.args.self.now
    c.requires.state c.args.process _ c.requires.next.1)

pub make_event-requires-clause-left : goal.make_event-requires-clause-left
make_event-requires-clause-left c =
    enabled_left (net_of c.args.network.now) c.args.self.now c.requires.state c.args.process
    (fire_enabled (net_of c.args.network.now) c.args.self.now
    c.requires.state c.args.process _ c.requires.next.1)

pub fire-requires-clause-process : goal.fire-requires-clause-process
fire-requires-clause-process c =
    let there =
    fire_enabled (net_of c.args.network.now) c.args.self.now c.requires.state c.args.process _ c.requires.next.1 in
    omega (
      arith,
      c.requires.state.fires,
      enabled_process (net_of c.args.network.now) c.args.self.now c.requires.state c.args.process there,
    )

pub fire-requires-clause-few : goal.fire-requires-clause-few
fire-requires-clause-few c =
    few_fires (net_of c.args.network.now) c.args.self.now c.requires.state c.args.process _ c.requires.next.1

pub returns-clause-run : goal.returns-clause-run
returns-clause-run c =
    let there =
    fire_enabled (net_of c.args.network.now) c.args.self.now c.requires.state c.args.process _ c.requires.next.1 in
    (fire_step (net_of c.args.network.now) c.args.self.now c.fire.new.self c.requires.state c.args.process there
    c.make_event.new.self c.make_event.ensures.cut c.make_event.ensures.progress c.fire.ensures.progress _
    c.requires.next.1 c.fire.ensures.fires (ap (λ queues. queues.items) c.fire.ensures.queues)
    (ap (λ slots. map slots_in slots.items) c.fire.ensures.slots)).run

pub returns-clause-state : goal.returns-clause-state
returns-clause-state c =
    let there =
    fire_enabled (net_of c.args.network.now) c.args.self.now c.requires.state c.args.process _ c.requires.next.1 in
    (fire_step (net_of c.args.network.now) c.args.self.now c.fire.new.self c.requires.state c.args.process there
    c.make_event.new.self c.make_event.ensures.cut c.make_event.ensures.progress c.fire.ensures.progress _
    c.requires.next.1 c.fire.ensures.fires (ap (λ queues. queues.items) c.fire.ensures.queues)
    (ap (λ slots. map slots_in slots.items) c.fire.ensures.slots)).state
