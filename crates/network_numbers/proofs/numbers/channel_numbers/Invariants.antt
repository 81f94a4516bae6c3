use Rattle.std.proofs.Common.{◌≡◌, take}
use Rattle.network_numbers.specs.PlanNumbers.{channels_by_plans}
use Rattle.network_numbers.proofs.numbers.channel_numbers.Given as goal

-- the channels so far are told
abbrev pub invariant-loop-channel : goal.invariant-loop-channel
invariant-loop-channel l = l.numbers.items ≡ channels_by_plans (take l.channel l.plans) l.capacities
