use Rattle.std.proofs.Common.{◌≡◌, ◌++◌, [], get_or}
use Rattle.std.specs.List.{flat_map, range_with_len}
use Rattle.channel_plan.specs.Reads.{channels_of}
use Rattle.channel_plan.proofs.read.add_channels_to.Given as goal

abbrev pub invariant-loop-read : goal.invariant-loop-read
invariant-loop-read l =
    l.plans.items
    ≡ l.initial.plans.items
    ++ flat_map (λ k. channels_of l.turns l.reader k (get_or l.reads k [])) (range_with_len 0 l.read)
