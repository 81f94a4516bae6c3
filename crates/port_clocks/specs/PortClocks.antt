-- The run of a network's ports by one clock: at each clock at most one event of each port, and one fire of each process.
--
-- A clock has three parts, as registers change: values that were fired leave by Puts, then fires take the slots, then Gets fill
-- them anew. What a Put reads may be overwritten by a fire of the same clock, and what a fire reads by a Get; so a process may
-- fire at every clock. A channel has the tokens and the room that it had at the clock's beginning.
use Rattle.std.specs.Prelude.{◌≡◌, ◌<◌, ◌≤◌, ◌==◌, ◌&&◌, ℕ, zero, suc, Bool, true, false, List, [], ◌++◌, length, map}
use Rattle.std.specs.List.{filter, flat_map, position_or_len, range_with_len}
use Rattle.std.specs.Option.{option_map_or}
use Rattle.net_core.specs.declared.network.Event.{Event}
use Rattle.net_core.specs.declared.network.Event.TheVariants.{Get, Fire, Put}
use Rattle.net_core.specs.Cuts.{positions}
use Rattle.net_core.specs.Machine.{Net, Rule, can_come}
use Rattle.net_core.specs.Rules.{tags}
use Rattle.net_core.specs.Shape.{events_below, is_any_get, is_fire}
use Rattle.clock_sim.specs.Clocks.{after_clocks, clocks}
use Rattle.port_runs.specs.Ports.{AllHaveCome, IsPortRun, EventPlace, PortState, event_at, may_come_at, port_after, port_reached, port_start}

-- whether an event is a Put, of whatever channel
abbrev pub is_any_put : Event → Bool
is_any_put (Get channel slot) = false
is_any_put (Fire refs) = false
is_any_put (Put channel) = true

-- the events of a process by their places, and those of a network, ascending
abbrev pub places_of : Net → ℕ → List EventPlace
places_of n p = map (λ k. (p, k)) (range_with_len 0 (length (n.script p)))

abbrev pub places : Net → List EventPlace
places n = flat_map (places_of n) (range_with_len 0 n.processes)

-- whether an event of a kind comes in a part of a clock: its channel lets it in the state at the clock's beginning, and it may
-- come in that at the part's
abbrev pub comes : {T : Type 0} → Net → (Event → Bool) → PortState T → PortState T → EventPlace
    → Bool
comes n kind clock part at =
    option_map_or kind (event_at n at) false
    && (can_come n clock.run (event_at n at) && may_come_at n part at)

abbrev pub part_of_clock : {T : Type 0} → Net → (Event → Bool) → PortState T → PortState T
    → List EventPlace
part_of_clock n kind clock part = filter (comes n kind clock part) (places n)

-- the Puts, the Fires and the Gets of the clock that begins in this state, each in the state behind those before
abbrev pub puts_of_clock : {T : Type 0} → Net → PortState T → List EventPlace
puts_of_clock n s = part_of_clock n is_any_put s s

abbrev pub after_puts : {T : Type 0} → Net → Rule T → PortState T → PortState T
after_puts n rule s = port_after n rule s (puts_of_clock n s)

abbrev pub fires_of_clock : {T : Type 0} → Net → Rule T → PortState T → List EventPlace
fires_of_clock n rule s = part_of_clock n is_fire s (after_puts n rule s)

abbrev pub after_fires : {T : Type 0} → Net → Rule T → PortState T → PortState T
after_fires n rule s = port_after n rule (after_puts n rule s) (fires_of_clock n rule s)

abbrev pub gets_of_clock : {T : Type 0} → Net → Rule T → PortState T → List EventPlace
gets_of_clock n rule s = part_of_clock n is_any_get s (after_fires n rule s)

-- all events of the clock that begins in this state
abbrev pub events_of_clock : {T : Type 0} → Net → Rule T → PortState T → List EventPlace
events_of_clock n rule s =
    puts_of_clock n s ++ (fires_of_clock n rule s ++ gets_of_clock n rule s)

-- the events of the first so many clocks, and the state after them
abbrev pub clocked_port_run : {T : Type 0} → Net → Rule T → ℕ → List EventPlace
clocked_port_run n rule zero = []
clocked_port_run n rule (suc k) =
    clocked_port_run n rule k
    ++ events_of_clock n rule (port_reached n rule (clocked_port_run n rule k))

abbrev pub after_port_clocks : {T : Type 0} → Net → Rule T → ℕ → PortState T
after_port_clocks n rule k = port_reached n rule (clocked_port_run n rule k)

-- whether no event comes at the clock after so many, whatever fires give
abbrev pub is_still_after : Net → ℕ → Bool
is_still_after n k = length (events_of_clock n tags (after_port_clocks n tags k)) == 0

-- The number of clocks: the run ends at the first clock at which no event comes. It is looked for after at most as many clocks
-- as the scripts have events.
unfoldable pub port_clocks : Net → ℕ
port_clocks n = position_or_len (is_still_after n) (range_with_len 0 (events_below n n.processes))

-- The clocked run of the ports is a run of the ports, and ends all.
pub record PortClocksEnd {T : Type 0} (n : Net) (rule : Rule T) : Type 0 where
  pub run : (k : ℕ) → IsPortRun n rule (port_start n) (clocked_port_run n rule k)
  -- each clock before the end has an event, and none a later one
  pub events : (k : ℕ) → k < port_clocks n
      → 0 < length (events_of_clock n rule (after_port_clocks n rule k))
  pub still : events_of_clock n rule (after_port_clocks n rule (port_clocks n)) ≡ []
  -- at the end all events have come
  pub ends : AllHaveCome n (after_port_clocks n rule (port_clocks n))
  -- at each clock all that have come in the clocked run of the scripts have come here
  pub ahead : (k p j : ℕ) → j < positions (after_clocks n rule k) p
      → (after_port_clocks n rule k).has_come p j ≡ true
  -- so there are no more clocks than there
  pub few : port_clocks n ≤ clocks n
