-- The machine of a process network with bounded channels (Kahn 1974): what a state is, which process may go on, and what one event does.
use Rattle.std.specs.Prelude.{◌≡◌, ℕ, suc, Bool, true, false, if◌then◌else◌, ◌==◌, nat_lt, Option, Some, None, List, [], ◌∷◌, ◌++◌, length, drop, slice_get, slice_set, replicate}
use Rattle.std.specs.Option.{option_map_or}
use Rattle.net_core.specs.declared.refs.Ref.{Ref}
use Rattle.net_core.specs.declared.network.Event.{Event}
use Rattle.net_core.specs.declared.network.Event.TheVariants.{Get, Fire, Put}
use Rattle.net_core.specs.declared.network.Network.{Network}

-- What the machine takes of a network: for each process its script and its number of slots, and for each channel its
-- ends and its capacity. A process or a channel that isn't there has no event, no slot and no room.
pub record Net : Type 0 where
  pub processes : ℕ
  pub channels : ℕ
  pub script : ℕ → List Event
  pub slots : ℕ → ℕ
  pub writer : ℕ → ℕ
  pub reader : ℕ → ℕ
  pub capacity : ℕ → ℕ

-- what the machine takes of this network
abbrev pub net_of : Network → Net
net_of network = record {
  processes = length network.processes;
  channels = length network.channels;
  script = λ p. option_map_or (λ process. process.script) (slice_get network.processes p) [];
  slots = λ p. option_map_or (λ process. process.slots) (slice_get network.processes p) 0;
  writer = λ c. option_map_or (λ channel. channel.writer) (slice_get network.channels c) 0;
  reader = λ c. option_map_or (λ channel. channel.reader) (slice_get network.channels c) 0;
  capacity = λ c. option_map_or (λ channel. channel.capacity) (slice_get network.channels c) 0;
}

-- States

-- One process's part of a state: how many events it has made, its slots, and all that it fired, which it keeps in
-- order. Its last fired value is the last of these.
pub record Local (T : Type 0) : Type 0 where
  pub position : ℕ
  pub slots : List (Option T)
  pub kept : List T

-- of each process its position, its slots and all that it fired, and of each channel its queue
pub record State (T : Type 0) : Type 0 where
  pub local : ℕ → Local T
  pub queue : ℕ → List T

-- every process stands at its script's beginning with empty slots, and every queue is empty
abbrev pub start : {T : Type 0} → Net → State T
start n = record {
  local = λ p. record { position = 0; slots = replicate (n.slots p) None; kept = [] };
  queue = λ c. [];
}

-- the event that a process makes next
abbrev pub next : {T : Type 0} → Net → State T → ℕ → Option Event
next n s p = slice_get (n.script p) (s.local p).position

-- Which process may go on

-- A Get needs a token in its channel's queue, and a Put a queue shorter than its channel's capacity.
abbrev pub can_come : {T : Type 0} → Net → State T → Option Event → Bool
can_come n s None = false
can_come n s (Some (Get channel slot)) = nat_lt 0 (length (s.queue channel))
can_come n s (Some (Fire refs)) = true
can_come n s (Some (Put channel)) = nat_lt (length (s.queue channel)) (n.capacity channel)

-- whether a process may make its next event: a Get needs a token, a Put needs room, a Fire nothing
abbrev pub enabled : {T : Type 0} → Net → State T → ℕ → Bool
enabled n s p = can_come n s (next n s p)

-- What one event does

-- what a fire gives, by its process, its turn, its references and the process's slots; the turn is the number of the fire
abbrev pub Rule : Type 0 → Type 0
Rule T = ℕ → ℕ → List Ref → List (Option T) → T

-- the first token of a queue
abbrev pub front : {T : Type 0} → List T → Option T
front [] = None
front (x ∷ queue) = Some x

-- the value that was fired last, as a list of one, or nothing
abbrev pub last_of : {T : Type 0} → List T → List T
last_of [] = []
last_of (x ∷ []) = x ∷ []
last_of (x ∷ (y ∷ kept)) = last_of (y ∷ kept)

abbrev pub after_get : {T : Type 0} → Local T → ℕ → Option T → Local T
after_get l slot token =
    record { position = suc l.position; slots = slice_set l.slots slot token; kept = l.kept }

abbrev pub after_fire : {T : Type 0} → Local T → T → Local T
after_fire l value =
    record { position = suc l.position; slots = l.slots; kept = l.kept ++ value ∷ [] }

abbrev pub after_put : {T : Type 0} → Local T → Local T
after_put l = record { position = suc l.position; slots = l.slots; kept = l.kept }

-- the part of process p after its event
abbrev pub local_after : {T : Type 0} → Rule T → ℕ → Local T → (ℕ → List T) → Event → Local T
local_after rule p l queue (Get channel slot) = after_get l slot (front (queue channel))
local_after rule p l queue (Fire refs) = after_fire l (rule p (length l.kept) refs l.slots)
local_after rule p l queue (Put channel) = after_put l

-- the queue of channel c after an event of a process that had kept these values
abbrev pub queue_after : {T : Type 0} → List T → Event → ℕ → List T → List T
queue_after kept (Get channel slot) c queue = if c == channel then drop 1 queue else queue
queue_after kept (Fire refs) c queue = queue
queue_after kept (Put channel) c queue = if c == channel then queue ++ last_of kept else queue

-- the function that is x at p, and else f
abbrev pub replaced : {X : Type 0} → (ℕ → X) → ℕ → X → ℕ → X
replaced f p x q = if q == p then x else f q

-- the state after an event of p
abbrev pub after_event : {T : Type 0} → Rule T → State T → ℕ → Option Event → State T
after_event rule s p None = s
after_event rule s p (Some e) =
    record {
      local = replaced s.local p (local_after rule p (s.local p) s.queue e);
      queue = λ c. queue_after (s.local p).kept e c (s.queue c);
    }

-- the state after one step of p
abbrev pub step : {T : Type 0} → Net → Rule T → State T → ℕ → State T
step n rule s p = after_event rule s p (next n s p)

-- Runs

-- the state after these processes have stepped, one after the other
abbrev pub after : {T : Type 0} → Net → Rule T → State T → List ℕ → State T
after n rule s [] = s
after n rule s (p ∷ run) = after n rule (step n rule s p) run

-- each of these processes is enabled in turn
abbrev pub IsRun : {T : Type 0} → Net → Rule T → State T → List ℕ → Type 0
IsRun n rule s [] = Unit {0}
IsRun n rule s (p ∷ run) = (enabled n s p ≡ true) × IsRun n rule (step n rule s p) run

-- every process is at its script's end
abbrev pub HasEnded : {T : Type 0} → Net → State T → Type 0
HasEnded n s = (p : ℕ) → (s.local p).position ≡ length (n.script p)

-- no process is enabled
abbrev pub IsStuck : {T : Type 0} → Net → State T → Type 0
IsStuck n s = (p : ℕ) → enabled n s p ≡ false
