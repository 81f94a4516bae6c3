use Rattle.std.proofs.Common.{ap, arith}
use Rattle.net_core.specs.Machine.{net_of}
use Rattle.net_checker.specs.TagStates.{cut_in}
use Rattle.net_checker.proofs.TagSteps.{enabled_left, enabled_process, got_step, token_there}
use Rattle.net_checker.proofs.tag_state.TagState.step_get.Goals as goal

pub make_event-requires-clause-process : goal.make_event-requires-clause-process
make_event-requires-clause-process c =
    enabled_process (net_of c.args.network.now) c.args.self.now c.requires.state c.args.process c.requires.enabled

pub make_event-requires-clause-left : goal.make_event-requires-clause-left
make_event-requires-clause-left c =
    enabled_left (net_of c.args.network.now) c.args.self.now c.requires.state c.args.process c.requires.enabled

pub get-requires-clause-process : goal.get-requires-clause-process
get-requires-clause-process c =
    omega (
      arith,
      c.requires.state.slots,
      enabled_process (net_of c.args.network.now) c.args.self.now c.requires.state c.args.process c.requires.enabled,
    )

pub get-requires-clause-queue : goal.get-requires-clause-queue
get-requires-clause-queue c =
    omega (
      arith,
      c.requires.state.queues,
      c.requires.state.progress.wired.get_channel c.args.process (cut_in c.args.self.now c.args.process) _ _
          c.requires.next,
    )

pub get-requires-clause-token : goal.get-requires-clause-token
get-requires-clause-token c =
    token_there (net_of c.args.network.now) c.args.self.now c.requires.state c.args.process _ _ c.requires.enabled
    c.requires.next

pub returns-clause-run : goal.returns-clause-run
returns-clause-run c =
    (got_step (net_of c.args.network.now) c.args.self.now c.get.new.self c.requires.state c.args.process
    c.requires.enabled c.make_event.new.self c.make_event.ensures.cut c.make_event.ensures.progress
    c.in_ok-get.ensures.progress _ _ c.requires.next (ap (λ fires. fires.items) c.in_ok-get.ensures.fires)
    c.in_ok-get.ensures.queues c.in_ok-get.ensures.slots).run

pub returns-clause-state : goal.returns-clause-state
returns-clause-state c =
    (got_step (net_of c.args.network.now) c.args.self.now c.get.new.self c.requires.state c.args.process
    c.requires.enabled c.make_event.new.self c.make_event.ensures.cut c.make_event.ensures.progress
    c.in_ok-get.ensures.progress _ _ c.requires.next (ap (λ fires. fires.items) c.in_ok-get.ensures.fires)
    c.in_ok-get.ensures.queues c.in_ok-get.ensures.slots).state
