use Rattle.std.proofs.Common.{◌≡◌, map, drop}
use Rattle.std.specs.List.{range_with_len}
use Rattle.sanlp.specs.Trace.{trace}
use Rattle.source_tree.specs.Sources.{sources_from}
use Rattle.process_derive.specs.Derived.{process_of}
use Rattle.process_derive.proofs.process.make_processes.Given as goal

abbrev pub invariant-loop-number : goal.invariant-loop-number
invariant-loop-number l = record {
  made : l.processes.items ≡ map (process_of l.nest) (range_with_len 0 l.number);
  left : l.rest ≡ sources_from l.nest (trace l.nest) l.number (drop l.number l.nest.statements);
}
