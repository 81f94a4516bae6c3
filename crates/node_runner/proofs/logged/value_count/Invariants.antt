use Rattle.std.proofs.Common.{◌≡◌, take}
use Rattle.node_runner.specs.Logs.{value_count}
use Rattle.node_runner.proofs.logged.value_count.Given as goal

abbrev pub invariant-loop-stream : goal.invariant-loop-stream
invariant-loop-stream l = l.count ≡ value_count (take l.stream-index l.streams)
