use Rattle.std.proofs.Common.{◌≡◌, ◌++◌, map, take, get_or}
use Rattle.channel_plan.specs.Reads.{channel_of}
use Rattle.channel_plan.proofs.read.add_channels_of.Given as goal

abbrev pub invariant-loop-writer : goal.invariant-loop-writer
invariant-loop-writer l =
    l.plans.items
    ≡ l.initial.plans.items
    ++ map (λ w. channel_of l.reader l.read l.sources (get_or l.turns w 0) w) (take l.writer-index l.writer-items)
