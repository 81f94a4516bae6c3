use Rattle.std.proofs.Common.{◌≡◌, length, map, take}
use Rattle.std.specs.List.{range_with_len}
use Rattle.channel_plan.specs.Tokens.{turns_used}
use Rattle.plan_numbers.proofs.turns.turns_by_writer.Given as goal

-- the lists have the turns of the sources so far
abbrev pub invariant-loop-source : goal.invariant-loop-source
invariant-loop-source l =
    l.lists.items ≡ map (λ w. turns_used w (take l.source-index l.sources)) (range_with_len 0 (length l.turns))
