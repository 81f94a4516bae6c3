use Rattle.std.proofs.Common.{◌≡◌, length, take}
use Rattle.std.specs.List.{fold}
use Rattle.network_numbers.proofs.RunQueues.{with_channel}
use Rattle.network_numbers.proofs.entry.pass_run.Given as goal

-- the channels so far were counted
abbrev pub invariant-loop-channel : goal.invariant-loop-channel
invariant-loop-channel l = record {
  many : length l.queues ≡ length l.fn.queues;
  counted : l.queues
      ≡ fold (with_channel l.plans l.lists l.table l.process l.first l.count) l.fn.queues
      (take l.channel-index l.channels);
}
