use Rattle.std.proofs.Common.{◌≡◌, ◌+◌, length}
use Rattle.sanlp.specs.Points.{points_of}
use Rattle.net_core.specs.Shape.{turns}
use Rattle.thread_runner.specs.Benches.{HaveSpace}
use Rattle.thread_runner.proofs.bench.empty_lists.Given as goal

abbrev pub invariant-loop : goal.invariant-loop
invariant-loop l = record {
  number : length l.lists.items ≡ l.counter;
  sink : l.sink + l.counter ≡ length l.nest.statements;
  space : HaveSpace (turns (points_of l.nest)) (length l.nest.statements) l.lists.items;
}
