-- The schedule that follows the sequential program, and how long the queues grow along a schedule.
use Rattle.std.specs.Prelude.{ℕ, ◌+◌, ◌-◌, max, List, [], ◌∷◌, map, take, length, replicate}
use Rattle.std.specs.List.{filter_map, flat_map, fold, range_with_len}
use Rattle.net_core.specs.declared.network.Channel.{Channel}
use Rattle.net_core.specs.declared.network.Network.{Network}
use Rattle.net_core.specs.Cuts.{Cut, cut_after, gets_at, opening, puts_at}
use Rattle.net_core.specs.Machine.{Net, net_of}
use Rattle.process_derive.specs.Scripts.{point_events}
use Rattle.sanlp.specs.declared.nest.Nest.{Nest}
use Rattle.sanlp.specs.declared.nest.Tag.{Tag}
use Rattle.sanlp.specs.Tags.{tag_at}
use Rattle.sanlp.specs.Trace.{trace}

-- the tags of the trace's entries, in order
abbrev pub tags_of_trace : Nest → List Tag
tags_of_trace n = filter_map (tag_at (trace n)) (range_with_len 0 (length (trace n)))

-- The schedule takes the trace and lets each entry's process do all events of that point.
unfoldable pub sequential_schedule : Nest → List ℕ
sequential_schedule n =
    flat_map (λ t. replicate (length (point_events n t.process t.turn)) t.process) (tags_of_trace n)

-- how many tokens channel c's queue holds at a cut: those put and not got
abbrev pub queue_length : Net → Cut → ℕ → ℕ
queue_length net cut c = puts_at net cut c - gets_at net cut c

-- the greatest length of channel c's queue along a schedule
abbrev pub greatest_length : Net → List ℕ → ℕ → ℕ
greatest_length net schedule c =
    let queued : ℕ → ℕ = λ k. queue_length net (cut_after opening (take k schedule)) c in
    fold max 0 (map queued (range_with_len 0 (length schedule + 1)))

-- for each channel the greatest length of its queue along a schedule
abbrev pub capacities : Network → List ℕ → List ℕ
capacities network schedule =
    map (greatest_length (net_of network) schedule) (range_with_len 0 (length network.channels))

-- the channels with these capacities, in order; a channel past the list has none
abbrev pub channels_with : List Channel → List ℕ → List Channel
channels_with [] capacities = []
channels_with (channel ∷ channels) [] = record channel { capacity = 0 } ∷ channels_with channels []
channels_with (channel ∷ channels) (capacity ∷ capacities) =
    record channel { capacity = capacity } ∷ channels_with channels capacities

-- the network with these capacities
abbrev pub with_capacities : Network → List ℕ → Network
with_capacities network capacities =
    record { processes = network.processes; channels = channels_with network.channels capacities }
