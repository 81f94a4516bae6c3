-- The machine of a process network whose ports go each at its own pace.
--
-- A port is an end of a channel at a process. Scripts, channels and what an event does are those of the machine; only the order
-- within a process is freer. Between two fires each port makes its events in their order, and none waits for another port.
use Rattle.std.specs.Prelude.{◌≡◌, ◌⊎◌, ◌<◌, ◌≤◌, ℕ, zero, suc, Bool, true, false, ◌==◌, ◌&&◌, ◌||◌, not, Option, Some, None, List, [], ◌∷◌, length, slice_get}
use Rattle.std.specs.Option.{option_map_or}
use Rattle.net_core.specs.declared.network.Event.{Event}
use Rattle.net_core.specs.declared.network.Event.TheVariants.{Get, Fire, Put}
use Rattle.net_core.specs.Machine.{Net, State, Rule, start, can_come, after_event, replaced}

-- Whether two events of a process are dependent: one of them is a Fire, both are at one port, or both fill one slot. Dependent
-- events come in the script's order; other events in any (Mazurkiewicz 1977).
abbrev pub are_dependent : Event → Event → Bool
are_dependent (Get c slot) (Get d other) = c == d || slot == other
are_dependent (Get c slot) (Fire refs) = true
are_dependent (Get c slot) (Put d) = false
are_dependent (Fire refs) e = true
are_dependent (Put c) (Get d slot) = false
are_dependent (Put c) (Fire refs) = true
are_dependent (Put c) (Put d) = c == d

-- an event of a network: its process, and its place in the script
abbrev pub EventPlace : Type 0
EventPlace = ℕ × ℕ

abbrev pub event_at : Net → EventPlace → Option Event
event_at n at = slice_get (n.script at.0) at.1

-- Which events have come, by process and place, and a state of the machine, whose positions count each process's events.
pub record PortState (T : Type 0) : Type 0 where
  pub has_come : ℕ → ℕ → Bool
  pub run : State T

-- no event has come
abbrev pub port_start : {T : Type 0} → Net → PortState T
port_start n = record { has_come = λ p k. false; run = start n }

-- whether each event of a script before this place on which the event depends has come
abbrev pub is_due : List Event → (ℕ → Bool) → Event → ℕ → Bool
is_due script has_come e zero = true
is_due script has_come e (suc k) =
    (has_come k || not (option_map_or (are_dependent e) (slice_get script k) false))
    && is_due script has_come e k

-- whether an event at a place may come: it hasn't, it is due, and its channel has a token or room for it
abbrev pub may_come : {T : Type 0} → Net → PortState T → EventPlace → Option Event → Bool
may_come n s at None = false
may_come n s at (Some e) =
    not (s.has_come at.0 at.1)
    && (is_due (n.script at.0) (s.has_come at.0) e at.1 && can_come n s.run (Some e))

abbrev pub may_come_at : {T : Type 0} → Net → PortState T → EventPlace → Bool
may_come_at n s at = may_come n s at (event_at n at)

-- the events that have come, with that at one place more
abbrev pub with_place : (ℕ → ℕ → Bool) → EventPlace → ℕ → ℕ → Bool
with_place has_come at = replaced has_come at.0 (replaced (has_come at.0) at.1 true)

-- the state after the event at a place
abbrev pub port_step : {T : Type 0} → Net → Rule T → PortState T → EventPlace → PortState T
port_step n rule s at = record {
  has_come = with_place s.has_come at;
  run = after_event rule s.run at.0 (event_at n at);
}

-- the state after the events at these places, one after the other
abbrev pub port_after : {T : Type 0} → Net → Rule T → PortState T → List EventPlace → PortState T
port_after n rule s [] = s
port_after n rule s (at ∷ run) = port_after n rule (port_step n rule s at) run

-- each of these events may come in turn
abbrev pub IsPortRun : {T : Type 0} → Net → Rule T → PortState T → List EventPlace → Type 0
IsPortRun n rule s [] = Unit {0}
IsPortRun n rule s (at ∷ run) =
    (may_come_at n s at ≡ true) × IsPortRun n rule (port_step n rule s at) run

-- the state after a run from the start
abbrev pub port_reached : {T : Type 0} → Net → Rule T → List EventPlace → PortState T
port_reached n rule run = port_after n rule (port_start n) run

-- every event of every script has come
abbrev pub AllHaveCome : {T : Type 0} → Net → PortState T → Type 0
AllHaveCome n s = (p k : ℕ) → k < length (n.script p) → s.has_come p k ≡ true

-- Every order of events that the ports allow ends all.
pub record PortsEndAlways {T : Type 0} (n : Net) (rule : Rule T) : Type 0 where
  -- in a state that a run reaches all events have come, or some may come
  pub goes_on : (run : List EventPlace) → IsPortRun n rule (port_start n) run
      → AllHaveCome n (port_reached n rule run)
      ⊎ ((at : EventPlace) × (may_come_at n (port_reached n rule run) at ≡ true))
  -- and it can go on until all have come
  pub ends : (run : List EventPlace) → IsPortRun n rule (port_start n) run
      → (rest : List EventPlace) × IsPortRun n rule (port_reached n rule run) rest
      × AllHaveCome n (port_after n rule (port_reached n rule run) rest)
  -- no queue is longer than its channel's capacity
  pub fits : (run : List EventPlace) → IsPortRun n rule (port_start n) run → (c : ℕ)
      → length ((port_reached n rule run).run.queue c) ≤ n.capacity c
