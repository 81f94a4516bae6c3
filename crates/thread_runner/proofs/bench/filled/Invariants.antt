use Rattle.std.proofs.Common.{◌≡◌, take, vec_capacity}
use Rattle.thread_runner.proofs.bench.filled.Given as goal

abbrev pub invariant-loop-value : goal.invariant-loop-value
invariant-loop-value l = record {
  items : l.list.items ≡ take l.value-index l.values;
  space : vec_capacity l.list ≡ vec_capacity l.initial.list;
}
