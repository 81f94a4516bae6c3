use Rattle.std.proofs.Common.{◌≡◌, ◌+◌, ◌++◌, drop, length}
use Rattle.sanlp.specs.WellFormed.{numbers_from}
use Rattle.net_core.specs.Held.{run_of}
use Rattle.net_core.specs.Sound.{sink_lists, sink_lists_from}
use Rattle.net_core.proofs.SinkLists.{is_printed}
use Rattle.clock_sim.proofs.sinks.sink_lists.Given as goal

abbrev pub invariant-loop-array : goal.invariant-loop-array
invariant-loop-array l =
    record {
      added : l.lists
          ++ sink_lists_from (λ p. ((run_of l.state).local p).kept) l.sink (drop l.array-index l.nest.arrays)
          ≡ sink_lists l.nest (run_of l.state);
      sinks : l.sink + length (numbers_from is_printed l.array-index (drop l.array-index l.nest.arrays))
          ≡ length l.nest.statements;
    }
