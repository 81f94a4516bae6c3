use Rattle.std.proofs.Common.{◌≡◌, ◌≤◌, ◌-◌, length}
use Rattle.std.specs.List.{find, range_with_len}
use Rattle.net_core.specs.Cuts.{enabled_at}
use Rattle.net_core.specs.Machine.{net_of}
use Rattle.net_core.specs.Progress.{at_capacities, cut_of}
use Rattle.cap_trim.proofs.least_run.least_enabled.Given as goal

abbrev pub invariant-loop-process : goal.invariant-loop-process
invariant-loop-process l =
    record {
      within : l.process ≤ length l.network.processes;
      found : find (enabled_at (at_capacities (net_of l.network) l.capacities) (cut_of l.progress))
          (range_with_len l.process (length l.network.processes - l.process))
          ≡ find (enabled_at (at_capacities (net_of l.network) l.capacities) (cut_of l.progress))
          (range_with_len l.from (length l.network.processes - l.from));
    }

abbrev pub decreases-loop-process : goal.decreases-loop-process
decreases-loop-process l = length l.network.processes - l.process
