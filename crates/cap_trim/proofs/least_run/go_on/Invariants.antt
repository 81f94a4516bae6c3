use Rattle.std.proofs.Common.{◌≡◌, ◌<◌, ◌≤◌, ℕ, false, length}
use Rattle.net_core.specs.Cuts.{enabled_at}
use Rattle.net_core.specs.Machine.{net_of}
use Rattle.witness_plan.proofs.Downward.{events_left}
use Rattle.net_core.specs.Progress.{IsProgress, at_capacities, cut_of}
use Rattle.cap_trim.specs.LeastRuns.{LeadsTo}
use Rattle.cap_trim.proofs.least_run.go_on.Given as goal

-- The events so far are a run, and below `from` no process is enabled.
abbrev pub invariant-loop-process : goal.invariant-loop-process
invariant-loop-process l =
    record {
      progress : IsProgress (net_of l.network) l.progress;
      run : LeadsTo (at_capacities (net_of l.network) l.capacities) (cut_of l.fn.progress) (cut_of l.progress);
      shut : (q : ℕ) → q < l.from → enabled_at (at_capacities (net_of l.network) l.capacities) (cut_of l.progress) q
          ≡ false;
      within : l.from ≤ length l.network.processes;
    }

abbrev pub decreases-loop-process : goal.decreases-loop-process
decreases-loop-process l = events_left (net_of l.network) (cut_of l.progress) (net_of l.network).processes
