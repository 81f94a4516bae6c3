use Rattle.std.proofs.Common.{sym, ap, ◌∙◌}
use Rattle.std.specs.Prelude.{nat_lt, ◌+◌, ℕ}
use Rattle.net_core.specs.Cuts.{can_come_at, gets_at, puts_at}
use Rattle.net_core.specs.Machine.{net_of}
use Rattle.net_core.proofs.Positions.{enabled_as_cut}
use Rattle.net_checker.specs.TagStates.{cut_in, state_of}
use Rattle.net_checker.proofs.tag_state.TagState.can_put.Goals as goal

pub has_place-requires-clause-channel : goal.has_place-requires-clause-channel
has_place-requires-clause-channel c =
    c.requires.state.progress.wired.put_channel c.args.process (cut_in c.args.self.now c.args.process) _ c.requires.next

pub returns : goal.returns
returns c =
    let n = net_of c.args.network.now in
    let state = c.args.self.now in
    c.has_place.ensures
    ∙ ap (λ (capacity : ℕ).
    nat_lt (puts_at n (cut_in state) c.args.channel) (gets_at n (cut_in state) c.args.channel + capacity))
    c.capacity_of-capacity.ensures
    ∙ sym (ap (can_come_at n (cut_in state)) c.requires.next)
    ∙ sym (enabled_as_cut n (state_of n state) c.requires.state.counted c.args.process)
