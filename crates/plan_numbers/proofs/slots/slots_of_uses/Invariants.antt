use Rattle.std.proofs.Common.{◌≡◌, ◌≤◌, length, take}
use Rattle.channel_plan.specs.Tokens.{uses_of}
use Rattle.reorder_slots.specs.Slots.{gets_for, held_after}
use Rattle.plan_numbers.proofs.FreeSlots.{free_in}
use Rattle.plan_numbers.proofs.slots.slots_of_uses.Given as goal

-- the slots are those that are held before this use
abbrev pub invariant-loop-number : goal.invariant-loop-number
invariant-loop-number l = record {
  gets : l.slots.gets ≡ gets_for (take l.number (uses_of l.used));
  free : l.slots.free ≡ free_in (uses_of l.used) l.number (held_after (uses_of l.used) l.number).slots;
  hold : l.slots.hold ≡ length (held_after (uses_of l.used) l.number).slots;
  few : l.slots.hold ≤ l.slots.gets;
}
