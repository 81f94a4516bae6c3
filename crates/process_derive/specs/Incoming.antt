-- The channels of one process, found among all channels of the network.
use Rattle.std.specs.Prelude.{ℕ, suc, ◌+◌, Bool, false, ◌==◌, ◌&&◌, if◌then◌else◌, List, [], ◌∷◌, filter, map, slice_get, slice_index_or}
use Rattle.std.specs.Option.{option_map_or}
use Rattle.channel_plan.specs.declared.plans.ChannelPlan.{ChannelPlan}
use Rattle.net_core.specs.declared.network.Event.{Event}
use Rattle.net_core.specs.declared.network.Event.TheVariants.{Put}
use Rattle.process_derive.specs.declared.incoming.Incoming.{Incoming}

-- the incoming channels of process p, in their order; the first of these channels has number c, and so many slots of p
-- stand before its own
abbrev pub incoming_from : ℕ → ℕ → List ChannelPlan → ℕ → List Incoming
incoming_from c base [] p = []
incoming_from c base (plan ∷ plans) p =
    if plan.reader == p
    then record { channel = c; read = plan.read; writer = plan.writer; base = base }
    ∷ incoming_from (suc c) (base + plan.slots.hold) plans p
    else incoming_from (suc c) base plans p

-- whether an incoming channel is from process w to read k
abbrev pub comes_from : ℕ → ℕ → Incoming → Bool
comes_from w k channel = (channel.writer == w) && (channel.read == k)

-- the numbers of the channels that process p writes; the first of these channels has number c
abbrev pub outgoing_from : ℕ → List ChannelPlan → ℕ → List ℕ
outgoing_from c [] p = []
outgoing_from c (plan ∷ plans) p =
    if plan.writer == p then c ∷ outgoing_from (suc c) plans p else outgoing_from (suc c) plans p

-- whether turn f of its writer is a token of channel c
abbrev pub carries : List ChannelPlan → ℕ → ℕ → Bool
carries plans f c =
    option_map_or (λ plan. slice_index_or plan.is_token f false) (slice_get plans c) false

-- a Put to each of these channels of which turn f is a token
abbrev pub puts_to : List ChannelPlan → List ℕ → ℕ → List Event
puts_to plans outgoing f = map Put (filter (carries plans f) outgoing)
