use Rattle.std.proofs.Common.{◌≡◌, ◌<◌, ◌≤◌, ◌++◌, length, map, take}
use Rattle.script_blocks.specs.Expansion.{parts_expansion, repeated}
use Rattle.witness_plan.specs.Effects.{effect_of}
use Rattle.witness_plan.proofs.effects.+adding.Given as goal

abbrev pub invariant-add_parts-loop-part : goal.invariant-add_parts-loop-part
invariant-add_parts-loop-part l =
    l.effects.items ≡ l.initial.effects.items ++ map effect_of (parts_expansion (take l.part-index l.parts))

abbrev pub invariant-add_copies-loop : goal.invariant-add_copies-loop
invariant-add_copies-loop l = record {
  some : 0 < l.counter;
  fits : l.end ≤ length l.effects.items;
  copies : l.effects.items ≡ l.fn.effects.items ++ map effect_of (repeated l.counter (parts_expansion l.parts));
}
