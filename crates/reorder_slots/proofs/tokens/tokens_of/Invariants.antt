use Rattle.std.proofs.Common.{◌≡◌, take}
use Rattle.reorder_slots.specs.Slots.{gets_for}
use Rattle.reorder_slots.proofs.tokens.tokens_of.Given as goal

abbrev pub invariant-loop-token : goal.invariant-loop-token
invariant-loop-token l = l.tokens ≡ gets_for (take l.token-index l.uses)
