use Rattle.std.proofs.Common.{◌≡◌, ◌++◌, drop}
use Rattle.process_derive.specs.Incoming.{outgoing_from}
use Rattle.process_derive.proofs.incoming.outgoing_channels.Given as goal

abbrev pub invariant-loop-channel : goal.invariant-loop-channel
invariant-loop-channel l =
    l.outgoing.items ++ outgoing_from l.channel (drop l.channel l.plans) l.process ≡ outgoing_from 0 l.plans l.process
