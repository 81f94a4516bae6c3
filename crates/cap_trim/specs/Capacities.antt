-- Least capacities: the channels of a network are given them one after the other.
use Rattle.std.specs.Prelude.{◌≡◌, ◌<◌, ◌≤◌, ◌-◌, ℕ, zero, suc, List, map, length, slice_index, slice_index_or, []}
use Rattle.std.specs.List.{position_or_len, range_with_len}
use Rattle.net_core.specs.declared.network.Network.{Network}
use Rattle.net_core.specs.Machine.{Net, start, replaced, IsRun, IsStuck}
use Rattle.net_core.specs.Orders.{EndsAll, reached}
use Rattle.net_core.specs.Rules.{tags}
use Rattle.sanlp.specs.declared.nest.Nest.{Nest}
use Rattle.witness_plan.specs.declared.schedules.Policy.{Policy}
use Rattle.witness_plan.specs.Schedules.{planned_network}
use Rattle.cap_trim.specs.Rests.{can_end, position_list, rest}

-- the network with these capacities
abbrev pub with_room : Net → (ℕ → ℕ) → Net
with_room n room = record n { capacity = room }

-- the network in which channel c has this capacity
abbrev pub with_capacity : Net → ℕ → ℕ → Net
with_capacity n c capacity = with_room n (replaced n.capacity c capacity)

-- the least capacity of channel c at which the network ends, or its own where no lesser one will do
abbrev pub least_capacity : Net → ℕ → ℕ
least_capacity n c =
    position_or_len (λ capacity. can_end (with_capacity n c capacity))
    (range_with_len 0 (n.capacity c))

-- The network once the first so many channels have been given their least capacities, in ascending order: when a channel's turn
-- comes, those before it have their new capacities and those behind it their old ones.
abbrev pub trimmed_network_below : Net → ℕ → Net
trimmed_network_below n zero = n
trimmed_network_below n (suc c) =
    let before = trimmed_network_below n c in with_capacity before c (least_capacity before c)

-- the network once each channel has been given its least capacity
unfoldable pub trimmed_network : Net → Net
trimmed_network n = trimmed_network_below n n.channels

-- the network in which channel c has one place less
abbrev pub lowered_network : Net → ℕ → Net
lowered_network n c = with_capacity n c (n.capacity c - 1)

-- the capacities, channel by channel
abbrev pub capacity_list : Net → List ℕ
capacity_list n = map n.capacity (range_with_len 0 n.channels)

-- for each channel, where the network comes to rest when that channel has one place less
abbrev pub lowered_rests : Net → List (List ℕ)
lowered_rests n = map (λ c. rest (lowered_network n c)) (range_with_len 0 n.channels)

-- The network sticks at these positions: each of its runs that can't go on stands there, some script isn't at its end there,
-- and no run ends all.
pub record SticksAt (n : Net) (places : List ℕ) : Type 0 where
  pub stands : (run : List ℕ) → IsRun n tags (start n) run → IsStuck n (reached n tags run)
      → position_list n (reached n tags run) ≡ places
  pub unended : (p : ℕ) × (slice_index places p < length (n.script p))
  pub endless : (run : List ℕ) → EndsAll n tags run → ⊥

-- with one place less in any one of its channels the network sticks, at that channel's list of these positions
abbrev pub SticksBelow : Net → List (List ℕ) → Type 0
SticksBelow n rests =
    (c : ℕ) → c < n.channels → SticksAt (lowered_network n c) (slice_index_or rests c [])

-- no capacities that are in no channel above these, and below them in some channel, let any run end all
abbrev pub NoneEndsBelow : Net → (ℕ → ℕ) → Type 0
NoneEndsBelow n capacities =
    (lesser : ℕ → ℕ) (c : ℕ) (run : List ℕ) → c < n.channels
    → ((d : ℕ) → d < n.channels → lesser d ≤ capacities d)
    → lesser c < capacities c → EndsAll (with_room n lesser) tags run → ⊥

-- the network is that of a nest with the capacities that its schedule under a policy needs
abbrev pub IsPlanned : Nest → Network → Type 0
IsPlanned nest network = (policy : Policy) × (network ≡ planned_network nest policy)
