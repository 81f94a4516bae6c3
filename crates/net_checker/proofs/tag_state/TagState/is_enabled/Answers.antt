use Rattle.std.proofs.Common.{Some, sym, ap, ◌∙◌, arith}
use Rattle.std.specs.Prelude.{nat_lt, ◌+◌, ℕ}
use Rattle.net_core.specs.Cuts.{can_come_at, gets_at, puts_at}
use Rattle.net_core.specs.Machine.{net_of}
use Rattle.net_core.proofs.Positions.{enabled_as_cut}
use Rattle.net_checker.proofs.TagSteps.{none_enabled}
use Rattle.net_checker.specs.TagStates.{cut_in, state_of}
use Rattle.net_checker.proofs.tag_state.TagState.is_enabled.Goals as goal

pub has_token-requires-clause-channel : goal.has_token-requires-clause-channel
has_token-requires-clause-channel c =
    let event = sym c.in-Some-Get.ensures ∙ ap Some c.in-Some-Get.field-0-is in
    c.requires.progress.wired.get_channel c.args.process (cut_in c.args.self.now c.args.process) _ _ event

pub has_place-requires-clause-channel : goal.has_place-requires-clause-channel
has_place-requires-clause-channel c =
    let event = sym c.in-Some-Put.ensures ∙ ap Some c.in-Some-Put.field-0-is in
    c.requires.progress.wired.put_channel c.args.process (cut_in c.args.self.now c.args.process) _ event

pub returns-then-process-len : goal.returns-then-process-len
returns-then-process-len c =
    sym (none_enabled (net_of c.args.network.now) c.args.self.now c.requires c.args.process (omega arith))

pub returns-in-Some-Get : goal.returns-in-Some-Get
returns-in-Some-Get c =
    let n = net_of c.args.network.now in
    let state = c.args.self.now in
    let event = sym c.in-Some-Get.ensures ∙ ap Some c.in-Some-Get.field-0-is in
    c.has_token.ensures ∙ sym (ap (can_come_at n (cut_in state)) event)
    ∙ sym (enabled_as_cut n (state_of n state) c.requires.counted c.args.process)

pub returns-in-Some-Fire : goal.returns-in-Some-Fire
returns-in-Some-Fire c =
    let n = net_of c.args.network.now in
    let state = c.args.self.now in
    let event = sym c.in-Some-Fire.ensures ∙ ap Some c.in-Some-Fire.field-0-is in
    sym (ap (can_come_at n (cut_in state)) event)
    ∙ sym (enabled_as_cut n (state_of n state) c.requires.counted c.args.process)

pub returns-in-Some-Put : goal.returns-in-Some-Put
returns-in-Some-Put c =
    let n = net_of c.args.network.now in
    let state = c.args.self.now in
    let event = sym c.in-Some-Put.ensures ∙ ap Some c.in-Some-Put.field-0-is in
    c.has_place.ensures
    ∙ ap (λ (capacity : ℕ).
    nat_lt (puts_at n (cut_in state) c.in-Some-Put.channel)
    (gets_at n (cut_in state) c.in-Some-Put.channel + capacity)) c.capacity_of-capacity.ensures
    ∙ sym (ap (can_come_at n (cut_in state)) event)
    ∙ sym (enabled_as_cut n (state_of n state) c.requires.counted c.args.process)

pub returns-in-None : goal.returns-in-None
returns-in-None c =
    let n = net_of c.args.network.now in
    let state = c.args.self.now in
    sym (ap (can_come_at n (cut_in state)) (sym c.in-None.ensures))
    ∙ sym (enabled_as_cut n (state_of n state) c.requires.counted c.args.process)
