use Rattle.std.proofs.Common.{◌≡◌, vec_len}
use Rattle.reorder_slots.specs.Slots.{gets_for}
use Rattle.reorder_slots.specs.Readers.{HasLastUses}
use Rattle.reorder_slots.proofs.tokens.last_uses.Given as goal

abbrev pub invariant-loop-number : goal.invariant-loop-number
invariant-loop-number l = record {
  tokens : vec_len l.last ≡ gets_for l.uses;
  last : HasLastUses l.uses l.number l.last.items;
}
