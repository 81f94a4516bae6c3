use Rattle.std.proofs.Common.{◌≡◌, length, map}
use Rattle.std.specs.List.{range_with_len}
use Rattle.sanlp.specs.Trace.{trace}
use Rattle.network_numbers.proofs.RunPassed.{queues_at}
use Rattle.fire_runs.proofs.TraceRuns.{fires_before}
use Rattle.network_numbers.proofs.lengths.capacities.Given as goal
use Rattle.witness_plan.proofs.InTraceOrder.{turns_before}

-- the runs so far were counted
abbrev pub invariant-loop-run : goal.invariant-loop-run
invariant-loop-run l =
    record {
      turns : l.turns.items
          ≡ map (turns_before (trace l.nest) (fires_before l.run-items l.run-index))
          (range_with_len 0 (length l.nest.statements));
      queues : l.queues.items ≡ queues_at l.nest (fires_before l.run-items l.run-index);
    }
