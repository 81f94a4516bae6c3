-- What the places of a network hold where its ports go each at its own pace.
use Rattle.std.specs.Prelude.{◌≡◌, ℕ, zero, suc, ◌+◌, Bool, true, false, if◌then◌else◌, ◌&&◌, Some, List, length, map, take, drop, slice_get}
use Rattle.std.specs.Option.{option_map, option_map_or}
use Rattle.sanlp.specs.declared.nest.Tag.{Tag}
use Rattle.net_core.specs.declared.refs.Ref.{Ref}
use Rattle.net_core.specs.declared.network.Event.{Event}
use Rattle.net_core.specs.declared.network.Event.TheVariants.{Fire}
use Rattle.net_core.specs.Machine.{Net}
use Rattle.net_core.specs.Names.{fired, slot_names, tokens}
use Rattle.net_core.specs.Shape.{is_fire, is_get, is_put, fires}
use Rattle.port_runs.specs.Ports.{PortState, event_at, may_come_at}

-- how many events of a kind have come among the first so many places of a script
abbrev pub come_count : (Event → Bool) → (ℕ → Bool) → List Event → ℕ → ℕ
come_count kind has_come script zero = 0
come_count kind has_come script (suc k) =
    come_count kind has_come script k
    + (if has_come k && option_map_or kind (slice_get script k) false then 1 else 0)

-- how many events of a kind a process has made
abbrev pub event_count : {T : Type 0} → Net → PortState T → (Event → Bool) → ℕ → ℕ
event_count n s kind p = come_count kind (s.has_come p) (n.script p) (length (n.script p))

-- the Gets and the Puts of a channel that have come
abbrev pub gets_so_far : {T : Type 0} → Net → PortState T → ℕ → ℕ
gets_so_far n s c = event_count n s (is_get c) (n.reader c)

abbrev pub puts_so_far : {T : Type 0} → Net → PortState T → ℕ → ℕ
puts_so_far n s c = event_count n s (is_put c) (n.writer c)

-- Each fire finds the values of what its references name, a process has kept those of its fires in order, and a queue holds
-- those of the tokens that were put and not got. So each channel carries the same tokens in the same order as in every other run.
pub record HoldsNames {T : Type 0} (n : Net) (v : Tag → T) (s : PortState T) : Type 0 where
  pub operands : (p k : ℕ) (refs : List Ref) → event_at n (p, k) ≡ Some (Fire refs)
      → may_come_at n s (p, k) ≡ true
      → ((s.run.local p).slots ≡ map (option_map v) (slot_names n p k))
      × (length (s.run.local p).kept ≡ fires n p k)
  pub kept : (p : ℕ) → (s.run.local p).kept ≡ fired v p (event_count n s is_fire p)
  pub queues : (c : ℕ)
      → s.run.queue c ≡ map v (drop (gets_so_far n s c) (take (puts_so_far n s c) (tokens n c)))
