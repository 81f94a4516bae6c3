-- What a process holds while it runs.
use Rattle.std.specs.Prelude.{ℕ, Option, Some, None, List, [], ◌∷◌, ◌++◌, drop, replicate, slice_set, count_by}
use Rattle.net_core.specs.declared.network.Event.{Event}
use Rattle.net_core.specs.Machine.{Net, Local}
use Rattle.net_core.specs.Shape.{is_fire}

-- of a process: what is left of its script, what lies in each slot, all that was fired, in order, and how many values
-- there is space for
pub record Store (T : Type 0) : Type 0 where
  pub left : List Event
  pub slots : List (Option T)
  pub kept : List T
  pub space : ℕ

-- what is left of a script, what lies in slots, all that was fired, and the space for values
abbrev pub store : {T : Type 0} → List Event → List (Option T) → List T → ℕ → Store T
store left slots kept space = record { left = left; slots = slots; kept = kept; space = space }

-- a process's store at its script's beginning
abbrev pub fresh_store : {T : Type 0} → Net → ℕ → Store T
fresh_store n p = store (n.script p) (replicate (n.slots p) None) [] (count_by is_fire (n.script p))

-- a store one event further in its script
abbrev pub store_past_event : {T : Type 0} → Store T → Store T
store_past_event s = store (drop 1 s.left) s.slots s.kept s.space

-- a store with this token in the slot
abbrev pub store_with_token : {T : Type 0} → Store T → ℕ → T → Store T
store_with_token s slot x = store s.left (slice_set s.slots slot (Some x)) s.kept s.space

-- a store with this value fired last
abbrev pub store_with_value : {T : Type 0} → Store T → T → Store T
store_with_value s x = store s.left s.slots (s.kept ++ x ∷ []) s.space

-- the machine's part of a process at this place of its script
abbrev pub local_of : {T : Type 0} → ℕ → Store T → Local T
local_of position s = record { position = position; slots = s.slots; kept = s.kept }
