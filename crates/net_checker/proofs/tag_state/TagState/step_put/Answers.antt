use Rattle.std.proofs.Common.{map, ap, arith}
use Rattle.net_core.specs.Machine.{net_of}
use Rattle.net_checker.specs.SlotRows.{slots_in}
use Rattle.net_checker.specs.TagStates.{cut_in}
use Rattle.net_checker.proofs.TagSteps.{enabled_left, enabled_process, fired_before, put_step}
use Rattle.net_checker.proofs.tag_state.TagState.step_put.Goals as goal

pub make_event-requires-clause-process : goal.make_event-requires-clause-process
make_event-requires-clause-process c =
    enabled_process (net_of c.args.network.now) c.args.self.now c.requires.state c.args.process c.requires.enabled

pub make_event-requires-clause-left : goal.make_event-requires-clause-left
make_event-requires-clause-left c =
    enabled_left (net_of c.args.network.now) c.args.self.now c.requires.state c.args.process c.requires.enabled

pub put-requires-clause-process : goal.put-requires-clause-process
put-requires-clause-process c =
    omega (
      arith,
      c.requires.state.fires,
      enabled_process (net_of c.args.network.now) c.args.self.now c.requires.state c.args.process c.requires.enabled,
    )

pub put-requires-clause-fired : goal.put-requires-clause-fired
put-requires-clause-fired c =
    fired_before (net_of c.args.network.now) c.args.self.now c.requires.state c.args.process _ c.requires.next

pub put-requires-clause-queue : goal.put-requires-clause-queue
put-requires-clause-queue c =
    omega (
      arith,
      c.requires.state.queues,
      c.requires.state.progress.wired.put_channel c.args.process (cut_in c.args.self.now c.args.process) _
          c.requires.next,
    )

pub returns-clause-run : goal.returns-clause-run
returns-clause-run c =
    (put_step (net_of c.args.network.now) c.args.self.now c.put.new.self c.requires.state c.args.process
    c.requires.enabled c.make_event.new.self c.make_event.ensures.cut c.make_event.ensures.progress
    c.in_ok-put.ensures.progress _ c.requires.next (ap (λ fires. fires.items) c.in_ok-put.ensures.fires)
    c.in_ok-put.ensures.queues (ap (λ slots. map slots_in slots.items) c.in_ok-put.ensures.slots)).run

pub returns-clause-state : goal.returns-clause-state
returns-clause-state c =
    (put_step (net_of c.args.network.now) c.args.self.now c.put.new.self c.requires.state c.args.process
    c.requires.enabled c.make_event.new.self c.make_event.ensures.cut c.make_event.ensures.progress
    c.in_ok-put.ensures.progress _ c.requires.next (ap (λ fires. fires.items) c.in_ok-put.ensures.fires)
    c.in_ok-put.ensures.queues (ap (λ slots. map slots_in slots.items) c.in_ok-put.ensures.slots)).state
