-- What the code holds of a clocked run of the ports: of each process a window of its script, and of each channel how many tokens.
use Rattle.std.specs.Prelude.{◌≡◌, ◌<◌, ◌≤◌, ◌+◌, ◌-◌, ◌^◌, ℕ, Bool, true, false, if◌then◌else◌, Some, List, [], ◌∷◌, length, map, drop, slice_get, slice_index_or, slice_set}
use Rattle.sanlp.specs.declared.nest.Tag.{Tag}
use Rattle.net_core.specs.declared.network.Event.{Event}
use Rattle.net_core.specs.declared.network.Event.TheVariants.{Get, Fire, Put}
use Rattle.net_core.specs.Machine.{Net}
use Rattle.net_core.specs.Rules.{tags}
use Rattle.net_core.specs.Shape.{FitsNumbers, IsWired, is_any_get, is_fire}
use Rattle.port_runs.specs.Ports.{IsPortRun, EventPlace, PortState, port_reached, port_start}
use Rattle.port_sim.specs.declared.ports.EventIndex.{EventIndex}
use Rattle.port_sim.specs.declared.ports.Ports.{Ports}
use Rattle.port_sim.specs.declared.window.Pending.{Pending}
use Rattle.port_sim.specs.declared.window.Window.{Window}
use Rattle.port_sim.specs.declared.window.Kind.{Kind}
use Rattle.port_sim.specs.declared.window.Kind.TheVariants.{Fires, Gets, Puts}
use Rattle.port_clocks.specs.PortClocks.{is_any_put}

-- whether an event is of a kind
abbrev pub is_of_kind : Kind → Event → Bool
is_of_kind Puts = is_any_put
is_of_kind Fires = is_fire
is_of_kind Gets = is_any_get

-- the events up to the first fire, with it, or all where there is none
abbrev pub round : List Event → List Event
round [] = []
round (e ∷ script) = if is_fire e then e ∷ [] else e ∷ round script

-- an event that hasn't come
abbrev pub waiting : Event → Pending
waiting e = record { event = e; has_come = false }

-- A window of a script of which these events have come: those up to the next fire that hasn't, from the first on behind the fire
-- before it. All before the window have come, and none behind it.
pub record IsWindow (script : List Event) (has_come : ℕ → Bool) (w : Window) : Type 0 where
  pub events : map (λ x. x.event) w.events.items ≡ round (drop w.first script)
  pub rest : w.rest ≡ drop (w.first + length w.events.items) script
  pub before : (k : ℕ) → k < w.first → has_come k ≡ true
  pub here : (i : ℕ) (x : Pending) → slice_get w.events.items i ≡ Some x
      → has_come (w.first + i) ≡ x.has_come
  pub behind : (k : ℕ) → w.first + length w.events.items ≤ k → has_come k ≡ false
  pub fire : (i : ℕ) (x : Pending) → slice_get w.events.items i ≡ Some x → is_fire x.event ≡ true
      → x.has_come ≡ false
  pub inside : w.first + length w.events.items ≤ length script

-- Ports

-- an event's process and its place in the script
abbrev pub place_of : EventIndex → EventPlace
place_of at = (at.process, at.place)

-- the channel of an event, if it has one, is there
abbrev pub HasChannel : ℕ → Event → Type 0
HasChannel channels (Get c slot) = c < channels
HasChannel channels (Fire refs) = Unit {0}
HasChannel channels (Put c) = c < channels

-- how many tokens channels hold after an event, where they held so many
abbrev pub queued_after : List ℕ → Event → List ℕ
queued_after queued (Get c slot) = slice_set queued c (slice_index_or queued c 0 - 1)
queued_after queued (Fire refs) = queued
queued_after queued (Put c) = slice_set queued c (slice_index_or queued c 0 + 1)

-- the channel of an event is there, with a token for a Get, and a number that can grow for a Put
abbrev pub CanCount : List ℕ → Event → Type 0
CanCount queued (Get c slot) = (c < length queued) × (0 < slice_index_or queued c 0)
CanCount queued (Fire refs) = Unit {0}
CanCount queued (Put c) = (c < length queued) × (slice_index_or queued c 0 + 1 < 2 ^ 32)

-- so many tokens are in each channel
pub record HasQueues (n : Net) (s : PortState Tag) (queued : List ℕ) : Type 0 where
  pub number : length queued ≡ n.channels
  pub lengths : (c : ℕ) → c < n.channels → slice_get queued c ≡ Some (length (s.run.queue c))

-- What the code holds of a state that a run of the ports has reached.
pub record IsAt (n : Net) (s : PortState Tag) (ports : Ports) : Type 0 where
  pub wired : IsWired n
  pub numbers : FitsNumbers n
  pub reached : (run : List EventPlace) × IsPortRun n tags (port_start n) run
      × (s ≡ port_reached n tags run)
  pub number : length ports.windows.items ≡ n.processes
  pub windows : (p : ℕ) (w : Window) → slice_get ports.windows.items p ≡ Some w
      → IsWindow (n.script p) (s.has_come p) w
  pub queues : HasQueues n s ports.queued.items

-- some run of the ports has reached what the code holds
abbrev pub IsReached : Net → Ports → Type 0
IsReached n ports = (s : PortState Tag) × IsAt n s ports
