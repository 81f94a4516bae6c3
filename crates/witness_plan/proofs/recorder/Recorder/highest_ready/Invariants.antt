use Rattle.std.proofs.Common.{◌≡◌, ◌≤◌, length}
use Rattle.net_core.specs.Cuts.{cut_after, opening}
use Rattle.net_core.specs.Machine.{net_of}
use Rattle.witness_plan.specs.Schedules.{highest_ready}
use Rattle.witness_plan.proofs.recorder.Recorder.highest_ready.Given as goal

abbrev pub invariant-loop-process : goal.invariant-loop-process
invariant-loop-process l =
    record {
      within : l.process ≤ length l.network.processes;
      found : highest_ready (net_of l.network) (cut_after opening l.self.schedule) l.process
          ≡ highest_ready (net_of l.network) (cut_after opening l.self.schedule) l.below;
    }

abbrev pub decreases-loop-process : goal.decreases-loop-process
decreases-loop-process l = l.process
