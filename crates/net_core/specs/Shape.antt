-- The shape of a network.
use Rattle.std.specs.Prelude.{◌≡◌, ◌<◌, ◌≤◌, ◌^◌, ℕ, zero, suc, ◌+◌, ℤ, Bool, true, false, ◌==◌, Some, List, [], length, take, slice_get, slice_index_or, count_by, All}
use Rattle.net_core.specs.declared.refs.Ref.{Ref}
use Rattle.net_core.specs.declared.refs.Ref.TheVariants.{Zero, Slot}
use Rattle.net_core.specs.declared.network.Event.{Event}
use Rattle.net_core.specs.declared.network.Event.TheVariants.{Get, Fire, Put}
use Rattle.net_core.specs.Machine.{Net}

-- whether an event is a Get, of whatever channel
abbrev pub is_any_get : Event → Bool
is_any_get (Get channel slot) = true
is_any_get (Fire refs) = false
is_any_get (Put channel) = false

-- whether an event is a Get of a channel
abbrev pub is_get : ℕ → Event → Bool
is_get c (Get channel slot) = c == channel
is_get c (Fire refs) = false
is_get c (Put channel) = false

-- whether an event is a Put of a channel
abbrev pub is_put : ℕ → Event → Bool
is_put c (Get channel slot) = false
is_put c (Fire refs) = false
is_put c (Put channel) = c == channel

-- whether an event is a Fire
abbrev pub is_fire : Event → Bool
is_fire (Get channel slot) = false
is_fire (Fire refs) = true
is_fire (Put channel) = false

-- the fires of process p before place k of its script; at a fire this is its turn
abbrev pub fires : Net → ℕ → ℕ → ℕ
fires n p k = count_by is_fire (take k (n.script p))

-- the Puts of a channel in its writer's script
abbrev pub put_count : Net → ℕ → ℕ
put_count n c = count_by (is_put c) (n.script (n.writer c))

-- a reference is Zero, or a slot below this number
abbrev pub IsWithin : ℕ → Ref → Type 0
IsWithin slots Zero = Unit {0}
IsWithin slots (Slot k) = k < slots

-- Every name in the scripts is that of something that is there: a channel, by its own reader or writer, or a slot.
pub record IsWired (n : Net) : Type 0 where
  -- a process that isn't there has no event
  pub bounded : (p : ℕ) → n.processes ≤ p → n.script p ≡ []
  pub writers : (c : ℕ) → c < n.channels → n.writer c < n.processes
  pub readers : (c : ℕ) → c < n.channels → n.reader c < n.processes
  pub get_channel : (p k c slot : ℕ) → slice_get (n.script p) k ≡ Some (Get c slot) → c < n.channels
  pub get_reader : (p k c slot : ℕ) → slice_get (n.script p) k ≡ Some (Get c slot) → n.reader c ≡ p
  pub get_slot : (p k c slot : ℕ) → slice_get (n.script p) k ≡ Some (Get c slot) → slot < n.slots p
  pub put_channel : (p k c : ℕ) → slice_get (n.script p) k ≡ Some (Put c) → c < n.channels
  pub put_writer : (p k c : ℕ) → slice_get (n.script p) k ≡ Some (Put c) → n.writer c ≡ p
  -- no Put stands before its process's first fire
  pub put_fired : (p k c : ℕ) → slice_get (n.script p) k ≡ Some (Put c) → 0 < fires n p k
  pub reference_slots : (p k : ℕ) (refs : List Ref) → slice_get (n.script p) k ≡ Some (Fire refs)
      → All (IsWithin (n.slots p)) refs

-- how many points process p has
abbrev pub turns : List (List (List ℤ)) → ℕ → ℕ
turns points p = length (slice_index_or points p [])

-- The network is shaped for these points, one list of iteration vectors for each process: it is wired, it has as many
-- processes as there are lists, each process has as many fires as points, and no process has more slots than Gets.
pub record IsShaped (n : Net) (points : List (List (List ℤ))) : Type 0 where
  pub processes : n.processes ≡ length points
  pub wired : IsWired n
  pub turns : (p : ℕ) → count_by is_fire (n.script p) ≡ turns points p
  pub few_slots : (p : ℕ) → n.slots p ≤ count_by is_any_get (n.script p)

-- the events of the first so many processes
abbrev pub events_below : Net → ℕ → ℕ
events_below n zero = 0
events_below n (suc p) = events_below n p + length (n.script p)

-- The processes, the channels, and the events of all scripts together are fewer than 2 ^ 32.
pub record FitsNumbers (n : Net) : Type 0 where
  pub processes : n.processes < 2 ^ 32
  pub channels : n.channels < 2 ^ 32
  pub events : events_below n n.processes < 2 ^ 32
