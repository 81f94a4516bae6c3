use Rattle.std.proofs.Common.{◌≡◌, ◌++◌, drop}
use Rattle.witness_plan.specs.Sequential.{channels_with}
use Rattle.witness_plan.proofs.schedules.channels_with.Given as goal

abbrev pub invariant-loop-at : goal.invariant-loop-at
invariant-loop-at l =
    l.changed.items ++ channels_with (drop l.at l.channels) (drop l.at l.capacities)
    ≡ channels_with l.channels l.capacities
