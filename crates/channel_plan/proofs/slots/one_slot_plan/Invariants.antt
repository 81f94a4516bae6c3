use Rattle.std.proofs.Common.{◌≡◌, take}
use Rattle.reorder_slots.specs.Slots.{gets_before, gets_for}
use Rattle.channel_plan.proofs.slots.one_slot_plan.Given as goal

abbrev pub invariant-loop-token : goal.invariant-loop-token
invariant-loop-token l = record {
  gets : l.gets ≡ gets_for (take l.token-index l.uses);
  before : l.gets_before.items ≡ take l.token-index (gets_before l.uses);
}
