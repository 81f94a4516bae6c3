use Rattle.std.proofs.Common.{◌≡◌, ◌<◌, ℕ, length}
use Rattle.node_runner.specs.Logs.{nth_stream}
use Rattle.node_runner.specs.Nodes.{stream}
use Rattle.nest_tests.proofs.alone.streams_of.Given as goal

abbrev pub invariant-loop-channel : goal.invariant-loop-channel
invariant-loop-channel l = record {
  number : length l.streams.items ≡ l.channel;
  each : (c : ℕ) → c < l.channel → nth_stream l.streams.items c ≡ stream l.made.nest l.made.network l.inputs c;
}
