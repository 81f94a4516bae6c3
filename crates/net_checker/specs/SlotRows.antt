-- Slots of which those past a row take memory only where they are filled.
use Rattle.std.specs.Prelude.{ℕ, List, Option, None, length, map, nat_lt, if◌then◌else◌, slice_index_or}
use Rattle.std.specs.List.{range_with_len}
use Rattle.std.specs.Ordering.{nat_cmp}
use Rattle.std.specs.BTreeMap.{get}
use Rattle.net_checker.specs.declared.slots.Slots.{Slots}

-- what lies in a slot: in the row, or else in the map
abbrev pub slot_at : {T : Type 0} → Slots T → ℕ → Option T
slot_at slots k =
    if nat_lt k (length slots.row.items) then slice_index_or slots.row.items k None
    else get nat_cmp slots.others k

-- what lies in each slot
unfoldable pub slots_in : {T : Type 0} → Slots T → List (Option T)
slots_in slots = map (slot_at slots) (range_with_len 0 slots.count)
