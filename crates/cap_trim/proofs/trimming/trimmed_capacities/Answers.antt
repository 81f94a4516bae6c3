use Rattle.std.proofs.Common.{◌≡◌, ◌∙◌, List, ℕ, set, drop, length, ap, subst, arith}
use Rattle.std.proofs.lemmas.List.{take_at}
use Rattle.net_core.specs.Machine.{net_of}
use Rattle.net_core.proofs.Fresh.{no_capacity}
use Rattle.cap_trim.specs.Capacities.{least_capacity}
use Rattle.net_core.specs.Progress.{at_capacities}
use Rattle.cap_trim.proofs.ChannelCapacities.{capacities_are}
use Rattle.cap_trim.proofs.Turns.{HaveTurned, turned_all, turned_more, turned_none}
use Rattle.cap_trim.proofs.trimming.trimmed_capacities.Goals as goal

pub loop-channel-init : goal.loop-channel-init
loop-channel-init c =
    turned_none (net_of c.args.wired.now.network.now) (no_capacity c.args.wired.now.network.now) c.in_ok-capacities.capacities.items
    (c.in_ok-capacities.ensures ∙ capacities_are c.args.wired.now.network.now)

pub loop-channel-preserved : goal.loop-channel-preserved
loop-channel-preserved c =
    let n = net_of c.args.wired.now.network.now in
    let channel = c.loop-channel.channel in
    let capacities = c.loop-channel.capacities in
    turned_more n channel capacities.items _ c.loop-channel.invariant (omega arith)
    (take_at c.lower.new.capacities (drop (length c.lower.new.capacities) capacities.items) capacities.len
    (omega (arith, c.lower.auto.capacities, c.deref_mut.ensures.len, capacities.ok.0))
    ∙ c.in_ok-lower.ensures
    ∙ ap (λ (l : List ℕ). set l channel (least_capacity (at_capacities n l) channel)) c.deref_mut.ensures.value)

pub returns : goal.returns
returns c =
    let last : c.loop-channel.channel ≡ length c.args.wired.now.network.now.channels = omega arith in
    turned_all (net_of c.args.wired.now.network.now) c.loop-channel.capacities.items
    (subst (λ m. HaveTurned (net_of c.args.wired.now.network.now) m c.loop-channel.capacities.items) last
    c.loop-channel.invariant)
