-- What the code holds: a state of the machine, what is left of each script, and the room that the lists have.
use Rattle.std.specs.Prelude.{◌≡◌, ◌≤◌, ◌<◌, ℕ, min, Some, List, [], length, drop, slice_get, count_by}
use Rattle.std.specs.Option.{option_map_or}
use Rattle.std.specs.VecDeque.{deque_capacity}
use Rattle.std.specs.declared.collections.VecDeque.{VecDeque}
use Rattle.std.specs.Global.{Global}
use Rattle.net_core.specs.declared.machine.Local.{Local}
use Rattle.net_core.specs.declared.machine.State as code
use Rattle.net_core.specs.declared.network.Event.{Event}
use Rattle.net_core.specs.Machine as machine
use Rattle.net_core.specs.Machine.{Net, State, replaced}
use Rattle.net_core.specs.Shape.{is_fire, put_count, IsWired, FitsNumbers}
use Rattle.net_core.specs.Cuts.{IsCounted}
use Rattle.net_core.specs.Rooms.{fresh_store, local_of}

-- the machine's part of what is held for a process; a process that isn't there has nothing
abbrev pub local_at : {T : Type 0} → List (Local T) → ℕ → machine.Local T
local_at locals p =
    option_map_or (λ l. local_of l.position l.room) (slice_get locals p)
    (record { position = 0; slots = []; kept = [] })

abbrev pub Queues : Type 0 → Type 0
Queues T = List (VecDeque T Global)

abbrev pub queue_at : {T : Type 0} → Queues T → ℕ → List T
queue_at queues c = option_map_or (λ q. q.items) (slice_get queues c) []

-- what a process has left of its script
abbrev pub left_at : {T : Type 0} → List (Local T) → ℕ → List Event
left_at locals p = option_map_or (λ l. l.room.left) (slice_get locals p) []

-- how many values a process may keep, and a queue hold, without taking memory
abbrev pub kept_room : {T : Type 0} → List (Local T) → ℕ → ℕ
kept_room locals p = option_map_or (λ l. l.room.space) (slice_get locals p) 0

abbrev pub queue_room : {T : Type 0} → Queues T → ℕ → ℕ
queue_room queues c = option_map_or (λ q. deque_capacity q) (slice_get queues c) 0

pub record Held (T : Type 0) : Type 0 where
  pub run : State T
  pub processes : ℕ
  pub channels : ℕ
  pub left : ℕ → List Event
  pub kept_room : ℕ → ℕ
  pub queue_room : ℕ → ℕ

abbrev pub held : {T : Type 0} → List (Local T) → Queues T → Held T
held locals queues = record {
  run = record { local = local_at locals; queue = queue_at queues };
  processes = length locals;
  channels = length queues;
  left = left_at locals;
  kept_room = kept_room locals;
  queue_room = queue_room queues;
}

-- the state of the machine that the code holds, with the room of its lists
abbrev pub held_of : {T : Type 0} → code.State T → Held T
held_of s = held s.locals.items s.queues.items

-- the state of the machine
abbrev pub run_of : {T : Type 0} → code.State T → State T
run_of s = (held_of s).run

-- the same numbers of processes and channels and the same room, where process p has one event less left
abbrev pub HasPassed : {T : Type 0} → ℕ → Held T → Held T → Type 0
HasPassed p a b =
    (b.processes ≡ a.processes) × (b.channels ≡ a.channels)
    × (b.left ≡ replaced a.left p (drop 1 (a.left p)))
    × (b.kept_room ≡ a.kept_room) × (b.queue_room ≡ a.queue_room)

-- What every state has that steps of this network have reached, with the room for all that is to come.
pub record IsFor {T : Type 0} (n : Net) (h : Held T) : Type 0 where
  pub wired : IsWired n
  pub numbers : FitsNumbers n
  pub processes : h.processes ≡ n.processes
  pub channels : h.channels ≡ n.channels
  pub counted : IsCounted n h.run
  pub inside : (p : ℕ) → (h.run.local p).position ≤ length (n.script p)
  pub left : (p : ℕ) → h.left p ≡ drop (h.run.local p).position (n.script p)
  pub slots : (p : ℕ) → length (h.run.local p).slots ≡ n.slots p
  pub kept_room : (p : ℕ) → h.kept_room p ≡ count_by is_fire (n.script p)
  pub queue_room : (c : ℕ) → h.queue_room c ≡ min (n.capacity c) (put_count n c)

-- steps of some network have reached the state
abbrev pub IsReached : {T : Type 0} → Held T → Type 0
IsReached h = (n : Net) × IsFor n h

-- a process isn't at its script's end, and each lower one is
abbrev pub IsLeastUnended : {T : Type 0} → Net → State T → ℕ → Type 0
IsLeastUnended n s p =
    ((s.local p).position < length (n.script p))
    × ((q : ℕ) → q < p → (s.local q).position ≡ length (n.script q))

-- a process at its script's beginning, with room for all that it fires
abbrev pub fresh_local : {T : Type 0} → Net → ℕ → Local T
fresh_local n p = record { position = 0; room = fresh_store n p }

-- the first so many processes stand at their scripts' beginnings
pub record AreFresh {T : Type 0} (n : Net) (locals : List (Local T)) (many : ℕ) : Type 0 where
  pub number : length locals ≡ many
  pub fresh : (p : ℕ) → p < many → slice_get locals p ≡ Some (fresh_local n p)

-- the first so many queues are empty, with room for all that they may hold
pub record AreEmpty {T : Type 0} (n : Net) (queues : Queues T) (many : ℕ) : Type 0 where
  pub number : length queues ≡ many
  pub empty : (c : ℕ) → c < many → queue_at queues c ≡ []
  pub room : (c : ℕ) → c < many → queue_room queues c ≡ min (n.capacity c) (put_count n c)
