use Rattle.std.proofs.Common.{◌≡◌, ◌++◌, [], get_or, map}
use Rattle.std.specs.List.{flat_map, range_with_len}
use Rattle.channel_plan.specs.Reads.{channels_of}
use Rattle.plan_numbers.specs.Numbers.{numbers_of}
use Rattle.plan_numbers.proofs.read.add_numbers_to.Given as goal

-- the reads so far have their channels
abbrev pub invariant-loop-read : goal.invariant-loop-read
invariant-loop-read l =
    l.numbers.items
    ≡ l.initial.numbers.items
    ++ map numbers_of (flat_map (λ k. channels_of l.turns l.reader k (get_or l.reads k [])) (range_with_len 0 l.read))
