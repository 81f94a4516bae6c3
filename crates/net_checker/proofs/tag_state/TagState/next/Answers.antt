use Rattle.std.proofs.Common.{ap, ◌∙◌}
use Rattle.std.proofs.lemmas.Bool.{false≢true}
use Rattle.net_core.specs.Machine.{net_of, can_come}
use Rattle.net_checker.proofs.TagSteps.{enabled_process}
use Rattle.net_checker.specs.TagStates.{state_of}
use Rattle.net_checker.proofs.tag_state.TagState.next.Goals as goal

pub next_event-requires-clause-process : goal.next_event-requires-clause-process
next_event-requires-clause-process c =
    enabled_process (net_of c.args.network.now) c.args.self.now c.requires.state c.args.process c.requires.enabled

pub unreachable-requires : goal.unreachable-requires
unreachable-requires c =
    let n = net_of c.args.network.now in
    false≢true (ap (can_come n (state_of n c.args.self.now)) c.in-None.ensures ∙ c.requires.enabled)
