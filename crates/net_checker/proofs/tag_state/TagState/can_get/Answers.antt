use Rattle.std.proofs.Common.{sym, ap, ◌∙◌}
use Rattle.net_core.specs.Cuts.{can_come_at}
use Rattle.net_core.specs.Machine.{net_of}
use Rattle.net_core.proofs.Positions.{enabled_as_cut}
use Rattle.net_checker.specs.TagStates.{cut_in, state_of}
use Rattle.net_checker.proofs.tag_state.TagState.can_get.Goals as goal

pub has_token-requires-clause-channel : goal.has_token-requires-clause-channel
has_token-requires-clause-channel c =
    c.requires.state.progress.wired.get_channel c.args.process (cut_in c.args.self.now c.args.process) _ _
    c.requires.next

pub returns : goal.returns
returns c =
    let n = net_of c.args.network.now in
    let state = c.args.self.now in
    c.has_token.ensures ∙ sym (ap (can_come_at n (cut_in state)) c.requires.next)
    ∙ sym (enabled_as_cut n (state_of n state) c.requires.state.counted c.args.process)
