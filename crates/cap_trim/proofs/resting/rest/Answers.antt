use Rattle.std.proofs.Common.{◌≡◌, ◌∙◌, length, ap}
use Rattle.std.proofs.lemmas.List.{length-map}
use Rattle.std.proofs.lemmas.Result.{IfOk-weaker}
use Rattle.net_core.specs.declared.network.Channel.{Channel}
use Rattle.net_core.specs.Machine.{net_of}
use Rattle.net_core.specs.Progress.{at_capacities}
use Rattle.cap_trim.specs.Rests.{rest}
use Rattle.cap_trim.proofs.ChannelCapacities.{capacities_are}
use Rattle.cap_trim.proofs.Turns.{at_listed}
use Rattle.net_core.proofs.Fresh.{no_capacity}
use Rattle.cap_trim.proofs.resting.rest.Goals as goal

pub rest_at-requires : goal.rest_at-requires
rest_at-requires c =
    ap length (c.deref.ensures.value ∙ c.in_ok-capacities.ensures)
    ∙ length-map c.args.network.now.channels (λ (channel : Channel). channel.capacity)

pub returns : goal.returns
returns c =
    let n = net_of c.args.network.now in
    let same : at_capacities n c.deref.result.now ≡ n =
    ap (at_capacities n) (c.deref.ensures.value ∙ c.in_ok-capacities.ensures ∙ capacities_are c.args.network.now)
    ∙ at_listed n (no_capacity c.args.network.now) in
    IfOk-weaker c.rest_at.result (λ positions. positions.items ≡ rest (at_capacities n c.deref.result.now))
    (λ positions. positions.items ≡ rest n) (λ positions is. is ∙ ap rest same) c.rest_at.ensures
