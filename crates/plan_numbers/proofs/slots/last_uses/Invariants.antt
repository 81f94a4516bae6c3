use Rattle.std.proofs.Common.{◌≡◌, vec_len}
use Rattle.reorder_slots.specs.Readers.{HasLastUses}
use Rattle.plan_numbers.proofs.slots.last_uses.Given as goal

-- the uses so far are there
abbrev pub invariant-loop-number : goal.invariant-loop-number
invariant-loop-number l = record {
  turns : vec_len l.last ≡ l.turns;
  last : HasLastUses l.used l.number l.last.items;
}
