use Rattle.std.proofs.Common.{◌≡◌, ◌+◌, ◌++◌, drop}
use Rattle.process_derive.specs.Incoming.{incoming_from}
use Rattle.process_derive.specs.Scripts.{slots_of}
use Rattle.process_derive.proofs.incoming.incoming_channels.Given as goal

abbrev pub invariant-loop-channel : goal.invariant-loop-channel
invariant-loop-channel l = record {
  found : l.incoming.items ++ incoming_from l.channel l.base (drop l.channel l.plans) l.process
      ≡ incoming_from 0 0 l.plans l.process;
  counted : l.base + slots_of (drop l.channel l.plans) l.process ≡ slots_of l.plans l.process;
}
