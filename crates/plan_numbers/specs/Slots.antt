-- The slots at the reader of a channel, as their numbers.
use Rattle.std.specs.Prelude.{ℕ, ◌+◌, ◌-◌, Bool, if◌then◌else◌}
use Rattle.plan_numbers.specs.declared.slots.SlotCounts.{SlotCounts}

-- so many Gets more: each takes a free slot, else a new one
abbrev pub after_gets : ℕ → SlotCounts → SlotCounts
after_gets count slots =
    record {
      gets = slots.gets + count;
      free = slots.free - count;
      hold = slots.hold + (count - slots.free);
    }

-- a use more: where it is its token's last, the slot is free
abbrev pub after_use : Bool → SlotCounts → SlotCounts
after_use is_last slots =
    record {
      gets = slots.gets;
      free = slots.free + (if is_last then 1 else 0);
      hold = slots.hold;
    }
