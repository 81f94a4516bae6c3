-- The numbers of a channel, from the turns of its writer that are used.
use Rattle.std.specs.Prelude.{ℕ, ◌+◌, List, map}
use Rattle.std.specs.List.{range_with_len}
use Rattle.channel_class.specs.Classes.{class_of}
use Rattle.channel_plan.specs.Tokens.{tokens_below, uses_of}
use Rattle.reorder_slots.specs.Slots.{hold_of}
use Rattle.plan_numbers.specs.declared.numbers.PlanNumbers.{PlanNumbers}

-- the numbers of the channel over which read k of process p uses these turns of process w, which has so many
abbrev pub numbers_by : ℕ → ℕ → ℕ → ℕ → List ℕ → PlanNumbers
numbers_by p k w turns used =
    record {
      reader = p;
      read = k;
      writer = w;
      tokens_before = map (tokens_below used) (range_with_len 0 (turns + 1));
      tokens = tokens_below used turns;
      class = class_of (uses_of used);
      hold = hold_of (uses_of used);
    }
