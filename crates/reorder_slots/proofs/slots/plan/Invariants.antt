use Rattle.std.proofs.Common.{◌≡◌, ◌≤◌, take, vec_len}
use Rattle.reorder_slots.specs.Slots.{gets_before, held_after, slots_of_uses}
use Rattle.reorder_slots.specs.Readers.{Keeps}
use Rattle.reorder_slots.proofs.slots.plan.Given as goal

abbrev pub invariant-loop-number : goal.invariant-loop-number
invariant-loop-number l = record {
  keeps : Keeps l.uses l.number (held_after l.uses l.number) l.reader;
  hold : l.reader.hold ≤ vec_len l.reader.slot_of_get;
  gets : l.gets_before ≡ take l.number (gets_before l.uses);
  uses : l.slot_of_use ≡ take l.number (slots_of_uses l.uses);
}
