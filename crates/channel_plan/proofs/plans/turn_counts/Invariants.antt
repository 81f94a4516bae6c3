use Rattle.std.proofs.Common.{◌≡◌, length, map, take}
use Rattle.channel_plan.proofs.plans.turn_counts.Given as goal

abbrev pub invariant-loop-vectors : goal.invariant-loop-vectors
invariant-loop-vectors l = l.turns.items ≡ map length (take l.vectors-index l.points.of)
