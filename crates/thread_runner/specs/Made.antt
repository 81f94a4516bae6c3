-- How the ends of all processes are made, channel by channel.
use Rattle.std.specs.Prelude.{◌≡◌, ◌==◌, ℕ, nat_lt, max, if◌then◌else◌, slice_set, ℤ, List, length, map, Option, Some, None, slice_get, slice_index_or}
use Rattle.std.specs.List.{range_with_len}
use Rattle.std.specs.Option.{option_map}
use Rattle.sanlp.specs.declared.nest.Inputs.{Inputs}
use Rattle.sanlp.specs.declared.nest.Nest.{Nest}
use Rattle.net_core.specs.declared.network.Network.{Network}
use Rattle.net_core.specs.Machine.{net_of}
use Rattle.ruled_links.specs.Ports.{Port, LinkEnd, AreOfOneLine}
use Rattle.node_runner.specs.Nodes.{stream, incoming, outgoing}
use Rattle.thread_runner.specs.declared.ends.NodeEnds.{NodeEnds}

-- the port of a channel, where its end is there
abbrev pub port_at : List (Option LinkEnd) → ℕ → Option Port
port_at ends c = option_map (λ end. end.port) (slice_index_or ends c None)

-- the streams of all channels, in order
abbrev pub all_streams : Nest → Network → Inputs → List (List ℤ)
all_streams nest network d =
    map (stream nest network d) (range_with_len 0 (length network.channels))

-- each end is one of a link that holds as many values as its channel's capacity, and at least one
abbrev pub AreOfCapacity : Network → List (Option LinkEnd) → Type 0
AreOfCapacity network ends = (c : ℕ) (end : LinkEnd) → slice_get ends c ≡ Some (Some end)
    → end.capacity ≡ max ((net_of network).capacity c) 1

-- each end is of a link that holds as many values as its channel's capacity, and at least one
abbrev pub AreOfCapacities : Network → List NodeEnds → Type 0
AreOfCapacities network ends = (p : ℕ) (e : NodeEnds) → slice_get ends p ≡ Some e
    → AreOfCapacity network e.gets.items × AreOfCapacity network e.puts.items

-- process p puts to channel c by this end
abbrev pub PutsBy : List NodeEnds → ℕ → ℕ → LinkEnd → Type 0
PutsBy ends p c put =
    (e : NodeEnds) × (slice_get ends p ≡ Some e) × (slice_index_or e.puts.items c None ≡ Some put)

-- process p gets from channel c by this end
abbrev pub GetsBy : List NodeEnds → ℕ → ℕ → LinkEnd → Type 0
GetsBy ends p c get =
    (e : NodeEnds) × (slice_get ends p ≡ Some e) × (slice_index_or e.gets.items c None ≡ Some get)

-- who puts to a channel and who gets from it hold ends of one line
abbrev pub AreJoined : List NodeEnds → Type 0
AreJoined ends =
    (c p q : ℕ) (put get : LinkEnd)
    → PutsBy ends p c put → GetsBy ends q c get → AreOfOneLine put get

-- no end of any channel
pub record IsBlank (channels : ℕ) (e : NodeEnds) : Type 0 where
  pub gets_number : length e.gets.items ≡ channels
  pub puts_number : length e.puts.items ≡ channels
  pub no_gets : (c : ℕ) → slice_index_or e.gets.items c None ≡ None
  pub no_puts : (c : ℕ) → slice_index_or e.puts.items c None ≡ None

pub record AreBlank (processes channels : ℕ) (ends : List NodeEnds) : Type 0 where
  pub number : length ends ≡ processes
  pub rows : (p : ℕ) (e : NodeEnds) → slice_get ends p ≡ Some e → IsBlank channels e

-- what process p has when the ends of the channels below k are made
pub record IsMadeTo (nest : Nest) (network : Network) (d : Inputs) (k p : ℕ)
    (e : NodeEnds) : Type 0 where
  pub gets_number : length e.gets.items ≡ length network.channels
  pub puts_number : length e.puts.items ≡ length network.channels
  pub gets : (c : ℕ)
      → port_at e.gets.items c
      ≡ (if nat_lt c k then incoming (stream nest network d) network p c else None)
  pub puts : (c : ℕ)
      → port_at e.puts.items c
      ≡ (if nat_lt c k then outgoing (stream nest network d) network p c else None)
  pub gets_hold : AreOfCapacity network e.gets.items
  pub puts_hold : AreOfCapacity network e.puts.items

pub record AreMade (nest : Nest) (network : Network) (d : Inputs) (k : ℕ)
    (ends : List NodeEnds) : Type 0 where
  pub number : length ends ≡ length network.processes
  pub rows : (p : ℕ) (e : NodeEnds) → slice_get ends p ≡ Some e → IsMadeTo nest network d k p e
  pub joined : AreJoined ends

-- what one process's ends become when both ends of a channel are set
abbrev pub IsPlacedAt : ℕ → ℕ → ℕ → LinkEnd → LinkEnd → ℕ → NodeEnds → NodeEnds → Type 0
IsPlacedAt c writer reader put get p old new =
    (new.puts.items
    ≡ (if writer == p then slice_set old.puts.items c (Some put) else old.puts.items))
    × (new.gets.items
    ≡ (if reader == p then slice_set old.gets.items c (Some get) else old.gets.items))

pub record IsPlaced (c writer reader : ℕ) (put get : LinkEnd)
    (old new : List NodeEnds) : Type 0 where
  pub number : length new ≡ length old
  pub rows : (p : ℕ) (e : NodeEnds) → slice_get new p ≡ Some e
      → (was : NodeEnds) × (slice_get old p ≡ Some was) × IsPlacedAt c writer reader put get p was e
