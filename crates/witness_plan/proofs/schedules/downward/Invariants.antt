use Rattle.net_core.specs.Cuts.{cut_after, opening}
use Rattle.net_core.specs.Machine.{net_of}
use Rattle.witness_plan.specs.Records.{IsRecord}
use Rattle.witness_plan.proofs.Descent.{IsDescent}
use Rattle.witness_plan.proofs.Downward.{events_left}
use Rattle.witness_plan.proofs.schedules.downward.Given as goal

abbrev pub invariant-loop-process : goal.invariant-loop-process
invariant-loop-process l =
    record {
      recorder : IsRecord (net_of l.wired.network.now) l.recorder;
      descent : IsDescent (net_of l.wired.network.now) l.recorder.schedule l.below;
    }

abbrev pub decreases-loop-process : goal.decreases-loop-process
decreases-loop-process l =
    events_left (net_of l.wired.network.now) (cut_after opening l.recorder.schedule) (net_of l.wired.network.now).processes
