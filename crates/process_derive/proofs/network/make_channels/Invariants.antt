use Rattle.std.proofs.Common.{◌≡◌, map, take}
use Rattle.process_derive.specs.Derived.{channel_of}
use Rattle.process_derive.proofs.network.make_channels.Given as goal

abbrev pub invariant-loop-plan : goal.invariant-loop-plan
invariant-loop-plan l = l.channels.items ≡ map channel_of (take l.plan-index l.plans)
