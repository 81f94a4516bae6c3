use Rattle.std.proofs.Common.{◌≡◌}
use Rattle.fire_runs.proofs.TraceRuns.{fires_before}
use Rattle.net_core.specs.Machine.{net_of}
use Rattle.witness_plan.specs.PointRuns.{IsPointRun}
use Rattle.witness_plan.proofs.TraceSteps.{sequenced}
use Rattle.witness_plan.proofs.schedules.sequential.Given as goal

abbrev pub invariant-loop-run : goal.invariant-loop-run
invariant-loop-run l =
    record {
      schedule : l.made.schedule.items ≡ sequenced l.nest (fires_before l.run-items l.run-index);
      made : IsPointRun (net_of l.network) l.made;
    }
